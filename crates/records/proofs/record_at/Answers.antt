-- `records::record_at` meets its contract. Assumes nothing.
use lib.ListN.{get_or-eq_default}
use Rattle.records.specs.Records.{no_arg, records_of}
use Rattle.records.specs.Flat.{record_is, whole_count}
use native.Mathlib.Omega.{arith}
use mathlib.Core.Path.{sym}
use borrow.Author.Rules.{rules}
use Rattle.records.proofs.record_at.Goals as goal

pub returns-else-index-records : goal.returns-else-index-records
returns-else-index-records c =
    let a = c.args in
    let n = whole_count a.records.now in
    sym (get_or-eq_default (records_of a.records.now) no_arg {n = a.index} (omega arith))

pub returns-then-index-records : goal.returns-then-index-records
returns-then-index-records c = record_is c.args.records.now c.args.index (search rules)
