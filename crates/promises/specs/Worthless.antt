-- Worthless programs, and that no contract of an entry point admits one. Assumes nothing.
-- "a reader or writer that refuses everything .., one that answers with one fixed line or list, one that changes no output, one that treats the
-- first argument rightly and copies the rest, one that reports invented argument or unit counts"
use Rattle.std.specs.Prelude.{◌≡◌}
use Rattle.std.proofs.Common.{sym, ap, ◌∙◌}
use Rattle.rules.specs.Answer.{Said}

-- ---- programs and contracts, whichever the entry point

-- an entry point, as far as it takes to say what is worthless
pub record EntryPoint : Type 1 where
  -- what a caller lends, what is answered, and what the lent memory can hold that is written
  pub Input : Type 0
  pub Answer : Type 0
  pub Memory : Type 0
  -- what that memory holds before the call
  pub held : Input → Memory
  -- what an answer says in the document's numbers
  pub said : Answer → Said
  -- the contract: what is promised of the answer and of what the memory holds afterwards
  pub Promised : Input → Answer → Memory → Type 0
  -- what an answer must say where a result is given: its counts
  pub counted : Input → Said
  -- the memory holds afterwards a result in which all that stands behind the first argument is merely copied
  pub Copied : Input → Memory → Type 0

-- a program: to all that can be lent it has an answer, and something that the memory holds afterwards
abbrev pub Program : EntryPoint → Type 0
Program e = e.Input → e.Answer × e.Memory

module _ (e : EntryPoint) (p : Program e) where
  -- it meets the contract, whatever is lent
  abbrev pub Meets : Type 0
  Meets = (x : e.Input) → e.Promised x (p x).0 (p x).1

  -- it answers this with a result: the number of a refusal is 0, there is none
  abbrev pub Accepts : e.Input → Type 0
  Accepts x = (e.said (p x).0).number ≡ 0

  -- the five kinds of worthless program
  pub data Worthless : Type 0 where
    -- it refuses everything
    refuses_all : ((x : e.Input) → ¬ Accepts x) → Worthless
    -- it has one fixed line or list: where it gives a result, it leaves the same in the same memory
    has_one_result : ((x y : e.Input) → Accepts x → Accepts y → e.held x ≡ e.held y → (p x).1 ≡ (p y).1) → Worthless
    -- it changes no output
    changes_nothing : ((x : e.Input) → (p x).1 ≡ e.held x) → Worthless
    -- it copies what stands behind the first argument, where it gives a result
    copies_rest : ((x : e.Input) → Accepts x → e.Copied x (p x).1) → Worthless
    -- it invents counts: once at least it gives a result and says other counts than the result's
    invents_counts : (x : e.Input) → Accepts x → ¬ (e.said (p x).0 ≡ e.counted x) → Worthless

-- the contract admits no worthless program
abbrev pub AdmitsNone : EntryPoint → Type 0
AdmitsNone e = (p : Program e) → Meets e p → ¬ Worthless e p

-- ---- two inputs shut them all out

-- an input, and the answer with a result that is right for it
pub record Trial (e : EntryPoint) : Type 0 where
  pub lent : e.Input
  pub answer : e.Answer
  pub after : e.Memory
  pub right : e.Promised lent answer after
  pub accepted : (e.said answer).number ≡ 0

-- the contract allows one answer, its counts are the result's, and it is tried on two inputs over one memory: what the first result leaves is neither
-- what was there, nor a copy, nor what the second leaves
pub record Tried (e : EntryPoint) : Type 0 where
  pub once : (x : e.Input) (a a' : e.Answer) (m m' : e.Memory) → e.Promised x a m → e.Promised x a' m' → (a ≡ a') × (m ≡ m')
  pub counts : (x : e.Input) (a : e.Answer) (m : e.Memory) → e.Promised x a m → (e.said a).number ≡ 0 → e.said a ≡ e.counted x
  pub first : Trial e
  pub second : Trial e
  pub together : e.held first.lent ≡ e.held second.lent
  pub unlike : ¬ (first.after ≡ second.after)
  pub changed : ¬ (first.after ≡ e.held first.lent)
  pub uncopied : ¬ e.Copied first.lent first.after

module _ {e : EntryPoint} (t : Tried e) (p : Program e) (meets : Meets e p) where
  -- on a trial the program answers and leaves what is right
  as_right : (r : Trial e) → ((p r.lent).0 ≡ r.answer) × ((p r.lent).1 ≡ r.after)
  as_right r = t.once r.lent _ _ _ _ (meets r.lent) r.right

  accepts : (r : Trial e) → Accepts e p r.lent
  accepts r = ap (λ a. (e.said a).number) (as_right r).0 ∙ r.accepted

  leaves : (r : Trial e) → (p r.lent).1 ≡ r.after
  leaves r = (as_right r).1

  not_worthless : ¬ Worthless e p
  not_worthless (refuses_all h) = h t.first.lent (accepts t.first)
  not_worthless (has_one_result h) =
      t.unlike (sym (leaves t.first) ∙ h _ _ (accepts t.first) (accepts t.second) t.together ∙ leaves t.second)
  not_worthless (changes_nothing h) = t.changed (sym (leaves t.first) ∙ h t.first.lent)
  not_worthless (copies_rest h) = t.uncopied (rw (← leaves t.first) (h t.first.lent (accepts t.first)))
  not_worthless (invents_counts x a h) = h (t.counts x (p x).0 (p x).1 (meets x) a)

-- a contract that is tried so admits none
pub tried_admits_none : {e : EntryPoint} → Tried e → AdmitsNone e
tried_admits_none t p meets = not_worthless t p meets
