-- No worthless program meets the contract of an entry point that reads or builds. Assumes nothing.
use Rattle.promises.specs.EntryPoints.{reader, block_reader, writing, line_builder, batch_builder, block_builder}
use Rattle.promises.specs.Worthless.{AdmitsNone, tried_admits_none}
use Rattle.promises.specs.Trials.{reader_tried, block_reader_tried, line_tried, batch_tried, block_tried}

-- the contract of parse_lp_cmd_line admits none
pub reader_admits_none : AdmitsNone reader
reader_admits_none = tried_admits_none reader_tried

-- the contract of read_envp admits none
pub block_reader_admits_none : AdmitsNone block_reader
block_reader_admits_none = tried_admits_none block_reader_tried

-- the contract of make_command_line admits none
pub line_admits_none : AdmitsNone (writing line_builder)
line_admits_none = tried_admits_none line_tried

-- the contract of make_bat_command_line admits none
pub batch_admits_none : AdmitsNone (writing batch_builder)
batch_admits_none = tried_admits_none batch_tried

-- the contract of make_envp admits none
pub block_admits_none : AdmitsNone (writing block_builder)
block_admits_none = tried_admits_none block_tried
