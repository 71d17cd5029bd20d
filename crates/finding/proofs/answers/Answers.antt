-- `finding::answers` meets its contract. Assumes nothing.
use mathlib.Core.Path.{◌∙◌, ◌≡◌, sym}
use native.Mathlib.Omega.{arith}
use borrow.Author.Tests.{eq-eqb, ne_eqb}
use Prim.Native.Nat.{◌+◌}
use lib.ListN.{get_or, length}
use Rattle.finding.specs.Found.{answers_at}
use Rattle.finding.proofs.answers.Goals as goal

pub returns-then-index-at : goal.returns-then-index-at
unfolding answers_at
returns-then-index-at c =
    let s = c.args in
    rw (ne_eqb (get_or s.index.now s.at 0) s.fingerprint c.if-index-at.true)

pub returns-then-index-at-2 : goal.returns-then-index-at-2
unfolding answers_at
returns-then-index-at-2 c =
    let s = c.args in
    let flag : get_or s.index.now (s.at + 1) 0 ≡ c.flag_word.result → ⊥ = λ e. omega arith in
    rw (eq-eqb (get_or s.index.now s.at 0) s.fingerprint c.if-index-at.false, ← c.flag_word.ensures, ne_eqb (get_or s.index.now (s.at + 1) 0) c.flag_word.result flag)

pub returns-then-word_at-lent : goal.returns-then-word_at-lent
unfolding answers_at
returns-then-word_at-lent c =
    let s = c.args in
    let flag : get_or s.index.now (s.at + 1) 0 ≡ c.flag_word.result = omega arith in
    rw (eq-eqb (get_or s.index.now s.at 0) s.fingerprint c.if-index-at.false, ← c.flag_word.ensures, eq-eqb (get_or s.index.now (s.at + 1) 0) c.flag_word.result flag, ne_eqb (get_or s.index.now (s.at + 2) 0) (length s.lent.now.program.now) (λ e. c.if-word_at-lent.true (c.word_at.ensures ∙ e)))

pub returns : goal.returns
unfolding answers_at
returns c =
    let s = c.args in
    let flag : get_or s.index.now (s.at + 1) 0 ≡ c.flag_word.result = omega arith in
    rw (eq-eqb (get_or s.index.now s.at 0) s.fingerprint c.if-index-at.false, ← c.flag_word.ensures, eq-eqb (get_or s.index.now (s.at + 1) 0) c.flag_word.result flag, eq-eqb (get_or s.index.now (s.at + 2) 0) (length s.lent.now.program.now) (sym c.word_at.ensures ∙ c.if-word_at-lent.false), ← c.word_at-2.ensures, ← c.word_at-3.ensures, ← c.part_at-key.ensures) c.is_key.ensures
