-- `keys::matching::arguments_at` meets its contract. Assumes nothing.
use native.Mathlib.Omega.{arith}
use Prim.Native.Nat.{zero-le}
use mathlib.Core.Path.{◌∙◌, sym}
use Rattle.rules.specs.Store.{code_of}
use Rattle.rules.specs.Record.{Argument}
use Rattle.laws.specs.Equal.{equal_end}
use Rattle.keys.proofs.Walk.{all_from, argument_within, compare_next, none_from}
use borrow.Author.Rules.{rules}
use Rattle.keys.proofs.matching.arguments_at.Goals as goal

pub loop-i-init : goal.loop-i-init
loop-i-init c =
    let s = c.args in
    (zero-le, search rules, rw (all_from s.lent.now.text.now s.lent.now.records.now))

pub argument_at-requires : goal.argument_at-requires
argument_at-requires c = c.loop-i.invariant.1

pub overflow_add-to-in-loop-i : goal.overflow_add-to-in-loop-i
overflow_add-to-in-loop-i c =
    let s = c.args in
    let a : Argument = record { kind = c.record_at-arg.result.kind; content = c.part_of-content.result.now } in
    omega (arith, argument_within s.key.now c.loop-i.to a c.loop-i.invariant.1 (sym c.argument_at.ensures ∙ c.if-not-argument_at.false))

pub loop-i-preserved : goal.loop-i-preserved
loop-i-preserved c =
    let s = c.args in
    let l = c.loop-i in
    let a : Argument = record { kind = c.record_at-arg.result.kind; content = c.part_of-content.result.now } in (
      search rules,
      argument_within s.key.now l.to a l.invariant.1 (sym c.argument_at.ensures ∙ c.if-not-argument_at.false),
      l.invariant.2 ∙ compare_next s.lent.now.text.now s.lent.now.records.now l.i (search rules) c.record_at-arg.ensures c.part_of-content.ensures.names s.key.now l.to _ (sym c.if-not-argument_at.false ∙ c.argument_at.ensures),
    )

pub returns-then-not-argument_at : goal.returns-then-not-argument_at
returns-then-not-argument_at c =
    let s = c.args in
    let l = c.loop-i in
    sym (l.invariant.2 ∙ compare_next s.lent.now.text.now s.lent.now.records.now l.i (search rules) c.record_at-arg.ensures c.part_of-content.ensures.names s.key.now l.to _ (sym c.if-not-argument_at.true ∙ c.argument_at.ensures))

pub returns : goal.returns
unfolding code_of
returns c =
    let s = c.args in
    let l = c.loop-i in
    sym (l.invariant.2 ∙ rw (none_from s.lent.now.text.now s.lent.now.records.now l.i (search rules)) (equal_end s.key.now l.to l.invariant.1))
