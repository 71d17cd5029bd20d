-- The contracts of the reader, of the line builders and of the block builder admit no worthless program: two small inputs of each show it. Assumes nothing.
use Rattle.std.specs.Prelude.{ℕ, zero, suc, ◌≡◌, refl, false, List, [], ◌∷◌, ◌++◌, length, drop, replicate, Ok}
use Rattle.std.proofs.Common.{arith, sym, ap, ◌∙◌, take-append-drop}
use Rattle.std.proofs.Math.Seq.{drop-nil}
use Rattle.rules.specs.Unit.{units, nul}
use Rattle.rules.specs.Choice.{equal}
use Rattle.rules.specs.Outcome.{Outcome, done, refused, over, filled}
use Rattle.rules.specs.Building.{line, command_line, script_of, batch_line, batch_command_line}
use Rattle.rules.specs.Block.{entry_units, block, environment_block}
use Rattle.rules.specs.Reading.{arguments_read, reading, argument_part}
use Rattle.rules.specs.BlockReading.{entries_read, block_reading}
use Rattle.rules.specs.Answer.{Said, refusal, units_said, arguments_said, entries_said}
use Rattle.laws.specs.Answer.{Telling, built_one, filled_one, answered_once, read_once, listed_once}
use Rattle.laws.specs.Equal.{not_one}
use Rattle.promises.specs.Line.{line_numbered, line_whole}
use Rattle.promises.specs.BatchLine.{batch_numbered, batch_whole}
use Rattle.promises.specs.Block.{block_numbered, block_whole}
use Rattle.promises.specs.Reading.{read_numbered, read_whole}
use Rattle.promises.specs.BlockReading.{entries_numbered, entries_whole}
use Rattle.promises.specs.Worthless.{Trial, Tried}
use Rattle.promises.specs.EntryPoints.{ToRead, ToList, ToBuild, ToFill, IsPart, reader, block_reader, Writer, writing, line_builder, batch_builder, block_builder}

-- what is said with the number 0 is what the whole result says, where no refusal has that number
counts_of : {A : Type 0} {whole : A} {said : Said} (told : Outcome A → Said) → ((number place : ℕ) → told (refused number place) ≡ refusal number place)
    → (o : Outcome A) → ((place : ℕ) → ¬ (o ≡ refused 0 place)) → ((result : A) → o ≡ done result → whole ≡ result) → said ≡ told o
    → said.number ≡ 0 → said ≡ told (done whole)
counts_of told plain (done result) numbered made e z = e ∙ rw (made result refl)
counts_of told plain (refused number place) numbered made e z =
    let f : number ≡ 0 = sym (ap (λ (s : Said). s.number) (e ∙ plain number place)) ∙ z in
    absurd (numbered place (rw f))

-- ---- the readers

-- `x a"b`, whose last argument is no part of it
unfoldable quoted : ToRead
unfolding units
quoted = record { executable = []; lent = units "x a\"b"; text = replicate 4 nul; spans = replicate 4 0; in_units = refl; in_numbers = refl }

-- `x c`
unfoldable unquoted : ToRead
unfolding units
unquoted = record { executable = []; lent = units "x c"; text = replicate 4 nul; spans = replicate 4 0; in_units = refl; in_numbers = refl }

-- `ab` is no part of `x a"b`
not_part : ¬ IsPart (units "x a\"b") (units "ab")
unfolding units equal
not_part (start, size, e) = go start (rw (← e) at (take-append-drop size (drop start (units "x a\"b"))))
  where
    go : {more : List ℕ} (start : ℕ) → ¬ (units "ab" ++ more ≡ drop start (units "x a\"b"))
    go zero e = not_one e refl
    go (suc zero) e = not_one e refl
    go (suc (suc zero)) e = not_one e refl
    go (suc (suc (suc zero))) e = not_one e refl
    go (suc (suc (suc (suc zero)))) e = not_one e refl
    go (suc (suc (suc (suc (suc n))))) e = not_one (e ∙ drop-nil n) refl

pub reader_tried : Tried reader
unfolding units reading arguments_read argument_part quoted unquoted equal
reader_tried =
    record {
      once = λ x a a' m m' c d.
          let (same, texts, tables) = read_once _ x.text x.spans a a' m.0 m'.0 m.1 m'.1 c d in
          (same, λ i. (texts i, tables i));
      counts = λ x a m c z.
          counts_of arguments_said (λ number place. refl) _
          (read_numbered x.executable x.lent (length x.text) (length x.spans))
          (λ result e. (read_whole x.executable x.lent (length x.text) (length x.spans) result e).2)
          c.says z;
      first = record {
        lent = quoted;
        answer = Ok (record { count = 2; units = 3 });
        after = (units "xab" ++ nul ∷ [], 0 ∷ 1 ∷ 1 ∷ 2 ∷ []);
        right = record { says = refl; leaves = refl; tabulates = refl };
        accepted = refl;
      };
      second = record {
        lent = unquoted;
        answer = Ok (record { count = 2; units = 2 });
        after = (units "xc" ++ nul ∷ nul ∷ [], 0 ∷ 1 ∷ 1 ∷ 1 ∷ []);
        right = record { says = refl; leaves = refl; tabulates = refl };
        accepted = refl;
      };
      together = refl;
      unlike = λ e. not_one (ap (λ (m : List ℕ × List ℕ). m.0) e) refl;
      changed = λ e. not_one (ap (λ (m : List ℕ × List ℕ). m.0) e) refl;
      uncopied = λ h. not_part (h 0 (omega arith));
    }

-- `A=` and `B=c`
unfoldable two_listed : ToList
unfolding units
two_listed = record { lent = units "A=" ++ nul ∷ units "B=c" ++ nul ∷ nul ∷ []; spans = replicate 8 0; in_units = refl; in_numbers = refl }

-- `B=` alone
unfoldable one_listed : ToList
unfolding units
one_listed = record { lent = units "B=" ++ nul ∷ nul ∷ []; spans = replicate 8 0; in_units = refl; in_numbers = refl }

pub block_reader_tried : Tried block_reader
unfolding units block_reading entries_read two_listed one_listed equal
block_reader_tried =
    record {
      once = λ x. listed_once _ x.spans;
      counts = λ x r m a z.
          counts_of entries_said (λ number place. refl) _
          (entries_numbered x.lent (length x.spans))
          (λ result e. (entries_whole x.lent (length x.spans) result e).1)
          a.says z;
      first = record {
        lent = two_listed;
        answer = Ok (record { count = 2; units = 8 });
        after = 0 ∷ 1 ∷ 2 ∷ 0 ∷ 3 ∷ 1 ∷ 5 ∷ 1 ∷ [];
        right = record { says = refl; tabulates = refl };
        accepted = refl;
      };
      second = record {
        lent = one_listed;
        answer = Ok (record { count = 1; units = 4 });
        after = 0 ∷ 1 ∷ 2 ∷ 0 ∷ replicate 4 0;
        right = record { says = refl; tabulates = refl };
        accepted = refl;
      };
      together = refl;
      unlike = λ e. not_one e refl;
      changed = λ e. not_one e refl;
      uncopied = λ e. not_one e refl;
    }

-- ---- the builders

module _ (w : Writer) where
  -- an input, the answer, and what the output holds then
  abbrev trial : (x : w.Input) (r : w.Answer) (after : List ℕ) → w.said r ≡ units_said (w.outcome x) → after ≡ filled (w.out x) (w.outcome x)
      → (w.said r).number ≡ 0 → Trial (writing w)
  trial x r after says leaves accepted =
      record { lent = x; answer = r; after = after; right = record { says = says; leaves = leaves }; accepted = accepted }

  -- two inputs over one output, where the first result leaves neither what was there, nor a copy, nor what the second leaves
  tried : Telling w.said → ((x : w.Input) (place : ℕ) → ¬ (w.outcome x ≡ refused 0 place))
      → ((x : w.Input) (result : List ℕ) → w.outcome x ≡ done result → w.whole x ≡ result) → (first second : Trial (writing w))
      → let x = first.lent in w.out x ≡ w.out second.lent → equal first.after second.after ≡ false
      → equal first.after (w.out x) ≡ false → equal first.after (over (w.out x) (w.copied x)) ≡ false → Tried (writing w)
  tried tells numbered made first second together unlike changed uncopied =
      record {
        once = λ x. answered_once tells (w.outcome x) (w.out x);
        counts = λ x r m a z. counts_of units_said (λ number place. refl) (w.outcome x) (numbered x) (made x) a.says z;
        first = first;
        second = second;
        together = together;
        unlike = λ e. not_one e unlike;
        changed = λ e. not_one e changed;
        uncopied = λ e. not_one e uncopied;
      }

-- program or script `x`, arguments `a` and empty: an empty one is written as two quote marks
unfoldable two_arguments : ToBuild
unfolding units
two_arguments =
    record {
      force = false;
      program = units "x";
      records = 0 ∷ 0 ∷ 1 ∷ 0 ∷ 0 ∷ 0 ∷ [];
      text = units "a";
      out = replicate 37 nul;
      in_units = refl;
      in_numbers = refl;
    }

-- program or script `y`, no arguments
unfoldable no_arguments : ToBuild
unfolding units
no_arguments =
    record { force = false; program = units "y"; records = []; text = []; out = replicate 37 nul; in_units = refl; in_numbers = refl }

pub line_tried : Tried (writing line_builder)
unfolding units command_line line two_arguments no_arguments equal
line_tried =
    tried line_builder built_one
    (λ x. line_numbered x.force x.program x.records x.text (length x.out))
    (λ x result e. (line_whole x.force x.program x.records x.text (length x.out) result e).1)
    (trial line_builder two_arguments (Ok (record { units = 8 })) (units "\"x\" a \"\"" ++ replicate 29 nul) refl refl refl)
    (trial line_builder no_arguments (Ok (record { units = 3 })) (units "\"y\"" ++ replicate 34 nul) refl refl refl)
    refl refl refl refl

pub batch_tried : Tried (writing batch_builder)
unfolding units batch_command_line batch_line script_of two_arguments no_arguments equal
batch_tried =
    tried batch_builder built_one
    (λ x. batch_numbered x.force x.program x.records x.text (length x.out))
    (λ x result e. (batch_whole x.force x.program x.records x.text (length x.out) result e).1)
    (trial batch_builder two_arguments (Ok (record { units = 37 })) (units "cmd.exe /e:ON /v:OFF /d /c \"\"x\" a \"\"\"") refl refl refl)
    (trial batch_builder no_arguments (Ok (record { units = 32 })) (units "cmd.exe /e:ON /v:OFF /d /c \"\"y\"\"" ++ replicate 5 nul) refl refl refl)
    refl refl refl refl

-- keys `A` and `B`, both values empty
unfoldable two_entries : ToFill
unfolding units
two_entries =
    record { records = 0 ∷ 1 ∷ 0 ∷ 0 ∷ 1 ∷ 1 ∷ 0 ∷ 0 ∷ []; text = units "AB"; out = replicate 7 nul; in_units = refl; in_numbers = refl }

-- key `B`, value empty
unfoldable one_entry_lem : ToFill
unfolding units
one_entry_lem = record { records = 1 ∷ 1 ∷ 0 ∷ 0 ∷ []; text = units "AB"; out = replicate 7 nul; in_units = refl; in_numbers = refl }

pub block_tried : Tried (writing block_builder)
unfolding units environment_block block entry_units two_entries one_entry_lem equal
block_tried =
    tried block_builder filled_one
    (λ x. block_numbered x.records x.text (length x.out))
    (λ x result e. (block_whole x.records x.text (length x.out) result e).1)
    (trial block_builder two_entries (Ok 7) (units "A=" ++ nul ∷ units "B=" ++ nul ∷ nul ∷ []) refl refl refl)
    (trial block_builder one_entry_lem (Ok 4) (units "B=" ++ replicate 5 nul) refl refl refl)
    refl refl refl refl
