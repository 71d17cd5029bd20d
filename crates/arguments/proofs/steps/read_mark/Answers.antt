-- `arguments::steps::read_mark` meets its contract. Assumes nothing.
use Rattle.arguments.proofs.Step.{closes, doubles}
use borrow.Author.Tests.{not-false}
use native.Mathlib.Omega.{arith}
use Rattle.std.proofs.lemmas.Bool.Decides.{nat_tests}
use Rattle.arguments.proofs.steps.read_mark.Goals as goal

pub returns-in-Some-eq34 : goal.returns-in-Some-eq34
returns-in-Some-eq34 c =
    let a = c.args in
    let g = c.in-Some-eq34.ensures.lookup in
    doubles a.rest.now a.out.now a.here (not-false a.here.quoted c.if-not-here.false) (grind (arith, nat_tests, g)) (grind (arith, nat_tests, g)) c.put.ensures

pub returns-in-Some : goal.returns-in-Some
returns-in-Some c =
    let a = c.args in
    let g = c.in-Some.ensures.lookup in
    closes a.rest.now a.out.now a.here (not-false a.here.quoted c.if-not-here.false) (grind (arith, nat_tests, g)) (grind (arith, nat_tests, g))
