-- `keys::matching::argument_at` meets its contract. Assumes nothing.
use native.Mathlib.Omega.{arith}
use Prim.Native.Nat.{◌+◌, ◌-◌}
use mathlib.Core.Path.{◌∙◌, ◌≡◌, sym}
use lib.ListN.{length, get_or}
use Rattle.rules.specs.Record.{Argument}
use Rattle.keys.proofs.Walk.{kind_differs, length_differs, no_argument, text_decides}
use borrow.Author.Rules.{rules}
use Rattle.keys.proofs.matching.argument_at.Goals as goal

pub returns-then-key-at : goal.returns-then-key-at
returns-then-key-at c =
    let s = c.args in
    let a : Argument = record { kind = s.kind; content = s.content.now } in
    sym (no_argument s.key.now s.at a c.if-key-at.true)

pub returns-then-from-kind : goal.returns-then-from-kind
returns-then-from-kind c =
    let s = c.args in
    let a : Argument = record { kind = s.kind; content = s.content.now } in
    kind_differs s.key.now s.at a (search rules) (λ e. omega arith)

pub returns-then-from-content : goal.returns-then-from-content
returns-then-from-content c =
    let s = c.args in
    let a : Argument = record { kind = s.kind; content = s.content.now } in
    length_differs s.key.now s.at a (search rules) (λ e. omega arith)

pub returns : goal.returns
returns c =
    let s = c.args in
    let a : Argument = record { kind = s.kind; content = s.content.now } in
    let n = length s.content.now in
    let m : s.at + 2 + n - (s.at + 2) ≡ n = omega arith in
    let k : get_or s.key.now s.at 0 ≡ s.kind = omega arith in
    let l : get_or s.key.now (s.at + 1) 0 ≡ n = omega arith in
    rw m at c.same_units.ensures ∙ text_decides s.key.now s.at a (search rules) k l
