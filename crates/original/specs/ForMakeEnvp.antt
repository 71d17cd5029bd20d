-- `make_envp` writes the block of the rules. Assumes nothing.
-- The order of keys is a parameter: whatever it is, entries whose keys stand in it, each above all before it, are what the map yields.
-- `cmp` (MakeEnvp), the order of `EnvKey`, is one such for each way to fold case.
use Rattle.std.specs.Prelude.{ℕ, ◌≡◌, Bool}
use Rattle.std.proofs.Math.Path.{refl, ap}
use Rattle.std.proofs.Common.{sym, ◌∙◌}
use Rattle.std.proofs.Math.Bool.{true, false}
use mathlib.Core.List.{List, [], ◌∷◌, ◌++◌, append_assoc, append-nil}
use Rattle.std.proofs.Math.Option.{some}
use Rattle.rules.specs.Choice.{pick, both, any}
use Rattle.rules.specs.Unit.{is_nul, nul, equals}
use Rattle.rules.specs.Outcome.{sound, wrong_if, fault_from, first_fault, unless, limited}
use Rattle.rules.specs.Record.{Entry, entries_of}
use Rattle.rules.specs.Block.{block_limit, entry_units, block, entry_nul_finding, environment_block}
use Rattle.original.specs.Shims.{Result, Ok, Err, nul_found, ensure_no_nuls, ◌>>=◌, Ordering, Less, Equal, Greater, Compare, at_first, insert, inserted, btree_map}
use Rattle.original.specs.MakeEnvp.{for_env, make_envp}
use Rattle.original.specs.Domain.{rust_says, port_says, in_domain, finding_says, fault_says}
use Rattle.original.specs.DomainLaws.{unless_says, entries_sound}
use Rattle.original.specs.Loops.{says_then, Loop, loop_says}
use Rattle.laws.specs.Choice.{both_true}

-- ---- what the map yields

-- it is `Greater`
abbrev pub is_greater : Ordering → Bool
is_greater Less = false
is_greater Equal = false
is_greater Greater = true

-- an entry's key is above all keys of a list
unfoldable pub above : Compare → Entry → List Entry → Bool
above compare e [] = true
above compare e (x ∷ xs) = both (is_greater (compare e.key x.key)) (above compare e xs)

-- "entries with distinct keys in the order of the Rust's map", behind others: each key is above all before it
unfoldable pub in_order_behind : Compare → List Entry → List Entry → Bool
unfolding above
in_order_behind compare before [] = true
in_order_behind compare before (e ∷ entries) = both (above compare e before) (in_order_behind compare (before ++ e ∷ []) entries)

-- "entries with distinct keys in the order of the Rust's map"
unfoldable pub in_order : Compare → List Entry → Bool
unfolding in_order_behind
in_order compare entries = in_order_behind compare [] entries

module _ (compare : Compare) where
  insert_last : (e : Entry) (xs : List Entry) → above compare e xs ≡ true → insert compare e xs ≡ xs ++ e ∷ []
  unfolding insert above
  insert_last e [] h = refl
  insert_last e (x ∷ xs) h =
      let (g, h') = both_true (is_greater (compare e.key x.key)) (above compare e xs) h in
      go (compare e.key x.key) g (insert_last e xs h')
    where
      go : (o : Ordering) → is_greater o ≡ true → insert compare e xs ≡ xs ++ e ∷ [] → at_first o e x xs (insert compare e xs) ≡ x ∷ xs ++ e ∷ []
      go Less g ih = let z : false ≡ true = g in cc
      go Equal g ih = let z : false ≡ true = g in cc
      go Greater g ih = ap (λ l. x ∷ l) ih

  inserted_last : (before entries : List Entry) → in_order_behind compare before entries ≡ true → inserted compare before entries ≡ before ++ entries
  unfolding in_order_behind inserted
  inserted_last before [] h = rw append-nil
  inserted_last before (e ∷ entries) h =
      let (a, h') = both_true (above compare e before) (in_order_behind compare (before ++ e ∷ []) entries) h in
      rw (insert_last e before a) (inserted_last (before ++ e ∷ []) entries h' ∙ simp append_assoc)

  -- entries in order are what the map yields
  pub yields_same : (entries : List Entry) → in_order compare entries ≡ true → btree_map compare entries ≡ entries
  unfolding in_order btree_map
  yields_same entries h = inserted_last [] entries h

-- ---- the block

-- what is written of an entry
abbrev entry_one : Entry → List ℕ
entry_one e = e.key ++ equals ∷ e.value ++ nul ∷ []

-- `?` twice, with what follows behind both or behind the whole
module _ (k v : List ℕ) where
  entry_turned : (n m : Bool) (f : List ℕ → List ℕ) (b : List ℕ) (more : List ℕ → Result (List ℕ)) → f v ≡ b
      → (pick n (Err nul_found) (Ok k) >>= λ k. pick m (Err nul_found) (Ok v) >>= λ v. more (f v))
      ≡ ((pick n (Err nul_found) (Ok k) >>= λ k. pick m (Err nul_found) (Ok v) >>= λ v. Ok b) >>= more)
  entry_turned true m f b more e = refl
  entry_turned false true f b more e = refl
  entry_turned false false f b more e = rw e

  entry_said : (n m : Bool) (b : List ℕ)
      → rust_says (pick n (Err nul_found) (Ok k) >>= λ k. pick m (Err nul_found) (Ok v) >>= λ v. Ok b) ≡ finding_says (wrong_if 5 n (wrong_if 5 m sound)) b
  entry_said true m b = refl
  entry_said false true b = refl
  entry_said false false b = refl

-- the loop appends each entry, up to the first with a NUL
env_loop : Loop for_env entry_nul_finding entry_one entry_units
unfolding for_env entry_units
env_loop =
    record {
      call = λ blk e. ensure_no_nuls e.key >>= λ k. ensure_no_nuls e.value >>= λ v. Ok (blk ++ entry_one e);
      ends = λ blk. refl;
      turns = λ blk e more.
          entry_turned e.key e.value (any is_nul e.key) (any is_nul e.value)
          (λ v. blk ++ e.key ++ equals ∷ [] ++ v ++ nul ∷ []) (blk ++ entry_one e) (λ blk. for_env blk more)
          (simp append_assoc);
      says = λ blk e. entry_said e.key e.value (any is_nul e.key) (any is_nul e.value) (blk ++ entry_one e);
      none = refl;
      next = λ e more. simp append_assoc;
    }

-- On all entries that a map yields: the block, or 5 where a key or a value has a NUL.
pub make_envp_says : (env : List Entry) → rust_says (make_envp (some env)) ≡ fault_says (first_fault entry_nul_finding env) (block env)
unfolding make_envp block fault_from
make_envp_says [] = refl
make_envp_says (e ∷ env) =
    says_then (λ blk. blk ++ nul ∷ []) (for_env [] (e ∷ env)) (first_fault entry_nul_finding (e ∷ env)) (entry_units (e ∷ env))
    (loop_says env_loop 1 [] (e ∷ env))

-- On the oracle's domain the Rust and the port say the same.
pub make_envp_same : (compare : Compare) (records text : List ℕ) (room : ℕ)
    → in_domain (environment_block records text room) ≡ true
    → in_order compare (entries_of text records) ≡ true
    → rust_says (make_envp (some (btree_map compare (entries_of text records)))) ≡ port_says (environment_block records text room)
unfolding environment_block
make_envp_same compare records text room h ordered =
    let entries = entries_of text records in
    let found = first_fault entry_nul_finding entries in
    let e = entries_sound text records (unless found (limited block_limit room (block entries))) h in
    rw (yields_same compare entries ordered, e)
    (make_envp_says entries ∙ sym (unless_says found block_limit room (block entries) (rw e at h)))
