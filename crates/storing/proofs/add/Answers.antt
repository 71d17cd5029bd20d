-- `storing::add` meets its contract. Assumes nothing.
use lib.Dec.{leb}
use mathlib.Core.Path.{◌∙◌}
use native.Mathlib.Omega.{arith}
use Rattle.keys.specs.Lent.{launch_of}
use Rattle.storing.proofs.Adding.{Begun, add_added, add_refused, all_fits, key_fits, places_left, start_within}
use Prim.Native.Nat.{◌*◌, ◌<◌}
use lib.ListN.{length}
use Rattle.storing.proofs.add.Goals.{After-place_for-start}
use Rattle.storing.proofs.add.Goals as goal

-- what is found before the builder is called
begun : (c : After-place_for-start) → let s = c.args in
    Begun s.places (launch_of s.lent.now) s.index.now s.units.now
    (leb s.places c.word_at-count.result) c.min-used.result c.key_size-key.result c.place_for-start.result
begun c =
    record {
      fulls = rw c.word_at-count.ensures;
      useds = c.min-used.ensures ∙ rw c.word_at.ensures;
      sizes = c.key_size-key.ensures;
      starts = c.place_for-start.ensures;
    }

pub offset_bounds-units-start : goal.offset_bounds-units-start
offset_bounds-units-start c = omega (arith, start_within 0 _ (begun c))

pub slice_bounds-make_command_line-count : goal.slice_bounds-make_command_line-count
slice_bounds-make_command_line-count c = start_within 0 _ (begun c)

pub slice_bounds-make_command_line-start : goal.slice_bounds-make_command_line-start
slice_bounds-make_command_line-start c = start_within 0 _ (begun c)

pub put_key-requires : goal.put_key-requires
put_key-requires c =
    let s = c.args in
    key_fits s.fingerprint _ (begun (goal.at.put_key-requires c).After-place_for-start) (rw c.in-Ok.is at c.make_command_line.ensures)

pub put_entry-requires : goal.put_entry-requires
put_entry-requires c =
    let s = c.args in
    let a = rw c.in-Ok.is at c.make_command_line.ensures in
    let g : length s.units.now * 2 < 9223372036854775808 = c.well_formed.1.1.0.1 in
    let l = places_left s.fingerprint _ (begun (goal.at.put_entry-requires c).After-place_for-start) a in
    let f = all_fits s.fingerprint _ (begun (goal.at.put_entry-requires c).After-place_for-start) a in
    (omega (arith, l, c.word_at-count.ensures, c.requires), omega (arith, f, g))

pub returns-in-Err : goal.returns-in-Err
returns-in-Err c =
    let s = c.args in
    rw c.refusal_for.ensures (add_refused s.fingerprint _ (begun (goal.at.returns-in-Err c).After-place_for-start) c.in-Err.r (rw c.in-Err.is at c.make_command_line.ensures))

pub returns-in-Ok : goal.returns-in-Ok
returns-in-Ok c =
    let s = c.args in
    add_added s.fingerprint _ (begun (goal.at.returns-in-Ok c).After-place_for-start) (rw c.in-Ok.is at c.make_command_line.ensures) (rw c.word_at-count.ensures at c.put_entry.ensures) c.put_key.ensures c.requires
