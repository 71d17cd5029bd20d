-- What is lent for one line, as the rules have it. Assumes nothing.
use Rattle.std.specs.Prelude.{List}
use Rattle.rules.specs.Record.{Argument, arguments_of}
use Rattle.rules.specs.Key.{Launch, launch}
use Rattle.keys.specs.declared.lent.Lent.{Lent}

-- its program, its records, its text and its flag
abbrev pub launch_of : Lent → Launch
launch_of l = launch l.force_quotes l.program.now l.records.now l.text.now

-- the arguments that its records name
abbrev pub arguments_lent : Lent → List Argument
arguments_lent l = arguments_of l.text.now l.records.now
