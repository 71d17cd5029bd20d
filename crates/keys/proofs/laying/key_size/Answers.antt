-- `keys::laying::key_size` meets its contract. Assumes nothing.
use Prim.Native.Nat.{zero-le}
use native.Mathlib.Omega.{arith}
use Rattle.rules.specs.Store.{code_of}
use Rattle.keys.proofs.Walk.{count_next, key_from, none_from}
use borrow.Author.Rules.{rules}
use Rattle.keys.proofs.laying.key_size.Goals as goal

pub loop-i-init : goal.loop-i-init
loop-i-init c =
    let s = c.args in
    (zero-le, omega (arith, c.min-size.ensures), omega (arith, c.min-size.ensures, key_from s.lent.now.program.now s.lent.now.text.now s.lent.now.records.now))

pub loop-i-preserved : goal.loop-i-preserved
loop-i-preserved c =
    let s = c.args in
    let l = c.loop-i in
    let m = count_next s.lent.now.text.now s.lent.now.records.now l.i (search rules) c.record_at-arg.ensures c.part_of-content.ensures.names in
    (search rules, omega (arith, c.min-size-in-loop-i.ensures), omega (arith, c.min-size-in-loop-i.ensures, m, l.invariant.2))

pub returns : goal.returns
unfolding code_of
returns c =
    let s = c.args in
    let l = c.loop-i in
    let e = rw (none_from s.lent.now.text.now s.lent.now.records.now l.i (search rules)) at l.invariant.2 in
    omega (arith, e, l.invariant.1)
