-- `cache::lookup` meets its contract. Assumes nothing.
use Rattle.std.proofs.lemmas.Result.{err_from_is_err_and}
use Rattle.rules.specs.Key.{launch}
use Rattle.cache.proofs.Saying.{looked_found, looked_refused}
use Rattle.rules.specs.Cache.{cache_places}
use Rattle.cache.proofs.lookup.Goals as goal

pub returns-in_err-first_fault : goal.returns-in_err-first_fault
returns-in_err-first_fault c =
    let s = c.args in
    let lent = launch s.force_quotes s.program.now s.records.now s.text.now in
    let p = err_from_is_err_and c.from_residual.result c.from_residual.ensures.1 in
    rw (p.1, p.2) (looked_refused s.fingerprint lent _ c.in_err-first_fault.ensures)

pub returns-in-Some : goal.returns-in-Some
unfolding cache_places
returns-in-Some c =
    let s = c.args in
    let lent = launch s.force_quotes s.program.now s.records.now s.text.now in
    looked_found s.fingerprint lent _ c.in_ok-first_fault.ensures (rw c.in-Some.is at c.find.ensures)

pub returns-in-None : goal.returns-in-None
unfolding cache_places
returns-in-None c =
    let s = c.args in
    let lent = launch s.force_quotes s.program.now s.records.now s.text.now in
    looked_found s.fingerprint lent _ c.in_ok-first_fault.ensures (rw c.in-None.is at c.find.ensures)
