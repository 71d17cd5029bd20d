-- Small stores of the launch line cache, computed: what is found, what is stored, each order and each boundary. Assumes nothing.
use Rattle.std.specs.Prelude.{ℕ, ◌≡◌, refl, Bool, true, false, List, [], ◌∷◌, ◌++◌, length}
use Prim.Native.String.{String}
use Rattle.rules.specs.Unit.{units}
use Rattle.rules.specs.Outcome.{done, refused}
use Rattle.rules.specs.Record.{regular, raw, arguments_of}
use Rattle.rules.specs.Building.{line}
use Rattle.rules.specs.Key.{Launch, launch, key_of}
use Rattle.rules.specs.Cache.{CacheEntry, cache_entry, entry_uses, missed, hit, held, stored, looking, storing, lookup, store, clear, left_by_all}
use Rattle.rules.specs.Store.{key_units, index_of, all_units}

-- a program with one argument, the whole text
abbrev one : Bool → String → ℕ → String → Launch
one force program kind text = let u = units text in launch force (units program) (kind ∷ 0 ∷ length u ∷ []) u

-- a program with two regular arguments: so many units of the text, and the rest of its three
abbrev two : String → ℕ → ℕ → String → Launch
two program first second text = launch false (units program) (0 ∷ 0 ∷ first ∷ 0 ∷ first ∷ second ∷ []) (units text)

abbrev ab : Launch
ab = one false "exe" regular "a b"

abbrev c : Launch
c = one false "exe" regular "c"

-- two keys under one fingerprint
abbrev pair : List CacheEntry
pair = cache_entry 7 (key_of ab) ∷ cache_entry 7 (key_of c) ∷ []

-- program 3, text 3, line `"exe" "a b"` 11, and two for the argument: 19; and 13 for the second
used : (entry_uses (cache_entry 7 (key_of ab)) ≡ 19) × (entry_uses (cache_entry 7 (key_of c)) ≡ 13)
unfolding entry_uses units arguments_of line
used = (refl, refl)

-- a key as units: program, kind, length, text
laid : key_units (key_of ab) ≡ 101 ∷ 120 ∷ 101 ∷ 0 ∷ 3 ∷ 97 ∷ 32 ∷ 98 ∷ []
unfolding key_units units arguments_of
laid = refl

-- the first is found behind its key of 8 units, the second behind the 19 units of the first and its own key of 6
found : (looking 7 ab pair ≡ done (hit 8 11)) × (looking 7 c pair ≡ done (hit 25 7))
unfolding looking units arguments_of line
found = (refl, refl)

-- another fingerprint, flag, kind, text or program is not, nor is a text that ends elsewhere or an argument more
unfound : (looking 8 c pair ≡ done missed) × (looking 7 (one true "exe" regular "c") pair ≡ done missed) × (looking 7 (one false "exe" raw "c") pair ≡ done missed)
    × (looking 7 (one false "exe" regular "d") pair ≡ done missed) × (looking 7 (one false "ex" regular "c") pair ≡ done missed)
    × (looking 7 (two "exe" 1 2 "a b") pair ≡ done missed) × (looking 7 (two "exe" 3 0 "a b") pair ≡ done missed)
unfolding looking units arguments_of line
unfound = (refl, refl, refl, refl, refl, refl, refl)

-- where an argument ends is part of a key: `a`, `bc` is not `ab`, `c`
ends : let es = cache_entry 7 (key_of (two "exe" 1 2 "abc")) ∷ [] in (looking 7 (two "exe" 1 2 "abc") es ≡ done (hit 10 10)) × (looking 7 (two "exe" 2 1 "abc") es ≡ done missed)
unfolding looking units arguments_of line
ends = (refl, refl)

-- a lookup gives refusal 1, and nothing else: a program with NUL is simply not held
refusals : (looking 7 (one false "exe" 2 "c") pair ≡ refused 1 1) × (looking 7 (launch false (0 ∷ []) [] []) pair ≡ done missed)
unfolding looking units arguments_of line
refusals = (refl, refl)

-- a third key needs 3 + 1 + 7 + 2 units: with 45 units lent it is stored, with 44 it is 4, with two places it is 3, which comes first
bounds : let d = one false "exe" raw "d" in (storing 3 45 7 d pair ≡ done (stored 38 7)) × (storing 3 44 7 d pair ≡ refused 4 0) × (storing 2 44 7 d pair ≡ refused 3 0)
unfolding storing units arguments_of line
bounds = (refl, refl, refl)

-- the builder's refusals come before all: 1, 5 for the program, 5 for an argument
firsts : (storing 2 44 7 (one false "exe" 2 "d") pair ≡ refused 1 1) × (storing 2 44 7 (launch false (0 ∷ []) [] []) pair ≡ refused 5 0)
    × (storing 2 44 7 (launch false [] (0 ∷ 0 ∷ 1 ∷ []) (0 ∷ [])) pair ≡ refused 5 1)
unfolding storing units arguments_of line
firsts = (refl, refl, refl)

-- what is held is said to be, however little room there is; under another fingerprint it is an entry of its own
holds : (storing 0 0 7 c pair ≡ done (held 25 7)) × (storing 3 45 8 c pair ≡ done (stored 38 7))
unfolding storing units arguments_of line
holds = (refl, refl)

-- calls one after another, the last in front: two entries are left, as words and units; clearing leaves none
left : let calls = lookup 7 c ∷ store 7 c ∷ store 7 c ∷ store 7 ab ∷ store 7 c ∷ clear ∷ store 9 c ∷ [] in
    let es = left_by_all 64 100 calls in
    (index_of es ≡ 2 ∷ 32 ∷ 7 ∷ 0 ∷ 3 ∷ 0 ∷ 6 ∷ 7 ∷ 7 ∷ 0 ∷ 3 ∷ 13 ∷ 8 ∷ 11 ∷ [])
    × (all_units es ≡ units "exe" ++ 0 ∷ 1 ∷ units "c\"exe\" cexe" ++ 0 ∷ 3 ∷ units "a b\"exe\" \"a b\"")
unfolding left_by_all index_of all_units units arguments_of line
left = (refl, refl)
