-- A line that the launch line cache hands back is never another list's. Assumes nothing.
use Rattle.std.specs.Prelude.{ℕ, ◌+◌, ◌≤◌, ◌≡◌, refl, false, List, ◌∷◌, ◌++◌, length, Ok}
use Rattle.std.proofs.Common.{zero-add, arith, sym, ap, ◌∙◌}
use Rattle.rules.specs.declared.Cached.TheVariants as Cached
use Rattle.rules.specs.Choice.{any}
use Rattle.rules.specs.Unit.{is_quote}
use Rattle.rules.specs.Outcome.{done, Fault, faultless, fault, unless}
use Rattle.rules.specs.Record.{part, argument_fault, arguments_of}
use Rattle.rules.specs.Reading.{reading}
use Rattle.rules.specs.Key.{Launch, key_of, prepared}
use Rattle.rules.specs.Cache.{cache_places, CacheEntry, all_use, key_size, Standing, there, nowhere, standing, hit, hit_at, looking, Call}
use Rattle.rules.specs.Store.{Represents, LooksUp}
use Rattle.laws.specs.LineRead.{is_raw, contents}
use Rattle.laws.specs.Entries.{line_is}
use Rattle.laws.specs.Standing.{stands_in, stands_built}
use Rattle.promises.specs.RoundTrip.{round_trip_always}
use Rattle.promises.specs.OneList.{one_list}
use Rattle.promises.specs.History.{After, entries_after, represented}

-- a line is the own line of what was looked up
pub record OwnLine (es : List CacheEntry) (fingerprint : ℕ) (lent : Launch) (line : List ℕ) : Type 0 where
  -- equality is checked after the hash: one of the entries has that fingerprint and that very key, and this is its line
  pub before : List CacheEntry
  pub entry : CacheEntry
  pub behind : List CacheEntry
  pub among : es ≡ before ++ entry ∷ behind
  pub same_fingerprint : entry.fingerprint ≡ fingerprint
  pub same_key : entry.key ≡ key_of lent
  pub its_line : line ≡ entry.line
  -- the builder makes just this line of what was lent
  pub built : prepared lent ≡ done line
  -- and the line is read as just that list, where the program has no quote mark and all arguments are regular
  pub read : any is_quote lent.program ≡ false → any is_raw (arguments_of lent.text lent.records) ≡ false
      → (executable : List ℕ) (output numbers : ℕ) → 32767 ≤ output → 32768 ≤ numbers
      → reading executable line output numbers ≡ done (lent.program ∷ contents (arguments_of lent.text lent.records))

-- where its key stands among the entries, that part of the units is such a line
pub standing_own : {places : ℕ} {index units : List ℕ} (es : List CacheEntry) → Represents places index units es → (fingerprint : ℕ) (lent : Launch)
    {start size : ℕ} → argument_fault lent.text lent.records ≡ faultless → standing fingerprint (key_of lent) 0 es ≡ there start size
    → OwnLine es fingerprint lent (part units start size)
standing_own {units = units} es r fingerprint lent {start} {size} f t =
    let s = stands_in fingerprint (key_of lent) 0 es t in
    let from : start ≡ all_use s.before + key_size s.entry.key = s.starts ∙ rw (zero-add (all_use s.before)) in
    let stood : part units (all_use s.before + key_size s.entry.key) (length s.entry.line) ≡ s.entry.line
    = line_is s.before s.entry s.behind (rw s.whole at r) in
    let own : part units start size ≡ s.entry.line
    = ap (λ i. part units i size) from ∙ ap (part units (all_use s.before + key_size s.entry.key)) s.counts ∙ stood in
    let b : prepared lent ≡ done (part units start size) = stands_built fingerprint lent es r.lines f t ∙ ap done (sym own) in
    record {
      before = s.before;
      entry = s.entry;
      behind = s.behind;
      among = s.whole;
      same_fingerprint = s.print_is;
      same_key = s.key_is;
      its_line = own;
      built = b;
      read = λ q g. round_trip_always (record { built = b; unquoted = q; regulars = g });
    }

-- a lookup that hit found the records sound, and the key standing there
pub hit_found : (f : Fault) (t : Standing) {start size : ℕ} → done (hit start size) ≡ unless f (done (hit_at t)) → (f ≡ faultless) × (t ≡ there start size)
hit_found faultless (there s n) {start} {size} e =
    let p : s ≡ start = cc in
    let q : n ≡ size = cc in
    (refl, rw (p, q))
hit_found faultless nowhere e = let z : ◌≡◌ {A = ℕ} 0 1 = cc in absurd (omega arith)
hit_found (fault number place) t e = let z : ◌≡◌ {A = ℕ} 0 1 = cc in absurd (omega arith)

-- For the auditor: after any calls on a store that was made empty, where a lookup answers a hit, the part of the units that it hands back is the own line of
-- what was looked up, whatever fingerprint was given.
pub own_line : {calls : List Call} {index units : List ℕ} → After calls index units → (fingerprint : ℕ) (lent : Launch) (start size : ℕ)
    → LooksUp cache_places index units fingerprint lent (Ok (Cached.Hit start size)) → OwnLine (entries_after calls units) fingerprint lent (part units start size)
unfolding looking
own_line {calls} {index} {units} a fingerprint lent start size l =
    let es = entries_after calls units in
    let (f, t) = hit_found (argument_fault lent.text lent.records) (standing fingerprint (key_of lent) 0 es) (l.says es (represented a)) in
    standing_own es (represented a) fingerprint lent f t

-- so two hits, in any stores and under any fingerprints, that hand back one line were of one program and one list of arguments
pub one_line_one_list : {es es' : List CacheEntry} {fingerprint fingerprint' : ℕ} {lent lent' : Launch} {line : List ℕ}
    → OwnLine es fingerprint lent line → OwnLine es' fingerprint' lent' line
    → any is_quote lent.program ≡ false → any is_raw (arguments_of lent.text lent.records) ≡ false
    → any is_quote lent'.program ≡ false → any is_raw (arguments_of lent'.text lent'.records) ≡ false
    → (lent.program ≡ lent'.program) × (contents (arguments_of lent.text lent.records) ≡ contents (arguments_of lent'.text lent'.records))
one_line_one_list o o' q g q' g' =
    one_list (record { built = o.built; unquoted = q; regulars = g }) (record { built = o'.built; unquoted = q'; regulars = g' })
