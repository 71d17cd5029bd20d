-- `make_bat_command_line` writes the batch line of the rules, and never calls `append_bat_arg` with a CR. Assumes nothing.
use Rattle.std.specs.Prelude.{ℕ, ◌≤◌, ◌≡◌, Bool, eqb}
use Rattle.std.proofs.Common.{arith, eqb-true, eq-eqb, ne_eqb, sym, ap, ◌∙◌}
use Rattle.std.proofs.lemmas.Bool.{eqb-false}
use Rattle.std.proofs.Math.Path.{refl}
use Rattle.std.proofs.Math.Bool.{true, false}
use mathlib.Core.List.{List, [], ◌∷◌, ◌++◌, append_assoc}
use Rattle.std.proofs.Math.Option.{Option, none, some}
use Rattle.rules.specs.Choice.{pick, either, both, any}
use Rattle.rules.specs.Unit.{is_nul, is_quote, is_line_break, quote, space}
use Rattle.rules.specs.Outcome.{wrong_if, first_fault, refuse, unless, limited}
use Rattle.rules.specs.Record.{Argument, is_regular, raw, arguments_of}
use Rattle.rules.specs.Batch.{ends_in_backslash, batch_form}
use Rattle.rules.specs.Building.{written, tail, batch_limit, script_of, batch_front, batch_line, is_no_script, nul_finding, batch_finding, batch_command_line}
use Rattle.laws.specs.Choice.{apart}
use Rattle.original.specs.Language.{◌==Some◌}
use Rattle.original.specs.Shims.{contains, last, put_before, strip_suffix, unwrap_or, Result, Ok, Err, ◌>>=◌, as_encoded_bytes}
use Rattle.original.specs.AppendArg.{Arg, Regular, Raw}
use Rattle.original.specs.AppendBatArg.{append_bat_arg}
use Rattle.original.specs.MakeBatCommandLine.{DISALLOWED, Append, match_arg, for_bat_args, make_bat_command_line_by, make_bat_command_line}
use Rattle.original.specs.Domain.{refuses, rust_says, port_says, in_domain, finding_says, fault_says, arg_of, args_of}
use Rattle.original.specs.DomainLaws.{unless_says, arguments_sound}
use Rattle.original.specs.Loops.{says_then, Loop, loop_says}
use Rattle.original.specs.Laws.{either_false}
use Rattle.original.specs.Wtf8Laws.{any_bytes}
use Rattle.original.specs.ForAppendArg.{append_arg_same}
use Rattle.original.specs.ForAppendBatArg.{is_return, append_bat_arg_same}

-- ---- tests

-- tests that say the same of each unit say the same of all
any_same : (p q : ℕ → Bool) → ((x : ℕ) → p x ≡ q x) → (xs : List ℕ) → any p xs ≡ any q xs
any_same p q h [] = refl
any_same p q h (x ∷ xs) = rw (h x, any_same p q h xs)

eqb_comm : (a b : ℕ) → eqb a b ≡ eqb b a
eqb_comm a b = go (eqb b a) refl
  where
    go : (t : Bool) → eqb b a ≡ t → eqb a b ≡ t
    go true e = eq-eqb a b (sym (eqb-true b a e))
    go false e = ne_eqb a b (λ d. eqb-false b a e (sym d))

-- the test on one byte
abbrev disallowed : ℕ → Bool
disallowed c = contains DISALLOWED c

disallowed_same : (c : ℕ) → disallowed c ≡ is_line_break c
disallowed_same c = rw (either_false (eqb c 10))

no_break : (b : ℕ) → 128 ≤ b → disallowed b ≡ false
no_break b h = rw (ne_eqb b 13 (λ e. omega arith), ne_eqb b 10 (λ e. omega arith))

-- the bytes hold one where the units do
disallowed_any : (xs : List ℕ) → any disallowed (as_encoded_bytes xs) ≡ any is_line_break xs
disallowed_any xs = any_bytes disallowed no_break xs ∙ any_same disallowed is_line_break disallowed_same xs

-- units without CR and LF are without CR
no_return : (xs : List ℕ) → any is_line_break xs ≡ false → any is_return xs ≡ false
no_return [] h = refl
no_return (x ∷ xs) h =
    let (e, h') = apart true (is_line_break x) (any is_line_break xs) h in
    let (e', _) = apart true (is_return x) (eqb x 10) e in
    rw (e', no_return xs h')

-- ---- an argument

module _ (call : Append)
    (calls : (cmd arg : List ℕ) (force : Bool) → any is_return arg ≡ false → call cmd arg force ≡ append_bat_arg cmd arg force) where
  match_unreached : (cmd : List ℕ) (arg : Arg) (force : Bool) → match_arg call cmd arg force ≡ match_arg append_bat_arg cmd arg force
  unfolding match_arg
  match_unreached cmd (Regular arg) force = go (any is_line_break arg) refl
    where
      go : (b : Bool) → any is_line_break arg ≡ b → match_arg call cmd (Regular arg) force ≡ match_arg append_bat_arg cmd (Regular arg) force
      go true e = rw (disallowed_any arg, e)
      go false e = rw (disallowed_any arg, e, calls cmd arg force (no_return arg e))
  match_unreached cmd (Raw arg) force = refl

  for_unreached : (cmd : List ℕ) (args : List Arg) (force : Bool) → for_bat_args call cmd args force ≡ for_bat_args append_bat_arg cmd args force
  unfolding for_bat_args
  for_unreached cmd [] force = refl
  for_unreached cmd (arg ∷ args) force =
      rw (match_unreached (cmd ++ space ∷ []) arg force)
      (go (match_arg append_bat_arg (cmd ++ space ∷ []) arg force) (λ next. for_unreached next args force))
    where
      go : (r : Result (List ℕ)) → ((next : List ℕ) → for_bat_args call next args force ≡ for_bat_args append_bat_arg next args force)
          → (r >>= λ next. for_bat_args call next args force) ≡ (r >>= λ next. for_bat_args append_bat_arg next args force)
      go (Ok next) ih = ih next
      go (Err e) ih = refl

  -- For no script and no arguments is the CR case of `append_bat_arg` reached.
  -- Whatever it did with an argument that has a CR, and it may do anything here, no line and no error would be another.
  pub carriage_return_unreached : (script : List ℕ) (args : List Arg) (force : Bool)
      → make_bat_command_line_by call script args force ≡ make_bat_command_line script args force
  unfolding make_bat_command_line
  carriage_return_unreached script args force = simp (for_unreached)

-- an argument is appended, or refused by 6 or, after that, by 5
match_arg_says : (force : Bool) (cmd : List ℕ) (a : Argument)
    → rust_says (match_arg append_bat_arg cmd (arg_of a) force) ≡ finding_says (batch_finding a) (cmd ++ written batch_form force a)
unfolding match_arg
match_arg_says force cmd a = go (is_regular a.kind) refl (any is_line_break a.content) refl
  where
    go : (r : Bool) → is_regular a.kind ≡ r → (b : Bool) → any is_line_break a.content ≡ b
        → rust_says (match_arg append_bat_arg cmd (arg_of a) force)
        ≡ finding_says (wrong_if 6 (both r b) (nul_finding a)) (cmd ++ pick r (batch_form force a.content) a.content)
    go true e true b = rw (e, disallowed_any a.content, b)
    go true e false b = rw (e, disallowed_any a.content, b) (append_bat_arg_same force cmd a (no_return a.content b))
    go false e t b = rw e (append_arg_same force cmd (record { kind = raw; content = a.content }))

-- ---- the line

-- the loop appends a space and a form for each argument, up to the first at fault
bat_args_loop : (force : Bool)
    → Loop (λ cmd args. for_bat_args append_bat_arg cmd (args_of args) force) batch_finding (λ a. space ∷ written batch_form force a) (tail batch_form force)
unfolding for_bat_args
bat_args_loop force =
    record {
      call = λ cmd a. match_arg append_bat_arg (cmd ++ space ∷ []) (arg_of a) force;
      ends = λ cmd. refl;
      turns = λ cmd a more. refl;
      says = λ cmd a. match_arg_says force (cmd ++ space ∷ []) a ∙ simp append_assoc;
      none = refl;
      next = λ a more. refl;
    }

-- the test on the script's last unit
last_same : (script : List ℕ) → last script ==Some 92 ≡ ends_in_backslash script
unfolding ends_in_backslash
last_same [] = refl
last_same (x ∷ []) = refl
last_same (x ∷ y ∷ ys) = last_same (y ∷ ys)

unwrap_before : (x : ℕ) (o : Option (List ℕ)) (xs : List ℕ) → unwrap_or (put_before x o) (x ∷ xs) ≡ x ∷ unwrap_or o xs
unwrap_before x none xs = refl
unwrap_before x (some ys) xs = refl

-- the script without one final NUL
script_same : (script : List ℕ) → unwrap_or (strip_suffix script 0) script ≡ script_of script
unfolding script_of
script_same [] = refl
script_same (x ∷ []) = go (is_nul x)
  where
    go : (b : Bool) → unwrap_or (pick b (some []) none) (x ∷ []) ≡ pick b [] (x ∷ [])
    go true = refl
    go false = refl
script_same (x ∷ y ∷ ys) = unwrap_before x (strip_suffix (y ∷ ys) 0) (y ∷ ys) ∙ ap (λ l. x ∷ l) (script_same (y ∷ ys))

-- a script is none where the rule says so
no_script_same : (script : List ℕ) → either (contains script quote) (last script ==Some 92) ≡ is_no_script script
no_script_same script = rw (any_same (λ y. eqb quote y) is_quote (λ y. eqb_comm quote y) script, last_same script)

-- On every script and list of arguments: 7, or 6 or 5 at the first argument at fault, or the batch line. A NUL in the script is not looked for.
pub make_bat_command_line_says : (force : Bool) (script : List ℕ) (args : List Argument)
    → rust_says (make_bat_command_line script (args_of args) force)
    ≡ pick (is_no_script script) (refuses 7) (fault_says (first_fault batch_finding args) (batch_line force (script_of script) args))
unfolding make_bat_command_line batch_line
make_bat_command_line_says force script args = go (is_no_script script) refl
  where
    start : List ℕ → List ℕ
    start script = batch_front ++ quote ∷ [] ++ script ++ quote ∷ []

    go : (b : Bool) → is_no_script script ≡ b
        → rust_says (make_bat_command_line script (args_of args) force)
        ≡ pick b (refuses 7) (fault_says (first_fault batch_finding args) (batch_line force (script_of script) args))
    go true e = rw (no_script_same script, e)
    go false e =
        rw (no_script_same script, e)
        (says_then (λ cmd. cmd ++ quote ∷ []) (for_bat_args append_bat_arg (start (unwrap_or (strip_suffix script 0) script)) (args_of args) force)
        (first_fault batch_finding args) (start (script_of script) ++ tail batch_form force args)
        (rw (script_same script) (loop_says (bat_args_loop force) 1 (start (script_of script)) args))
        ∙ simp append_assoc)

-- On the oracle's domain the Rust and the port say the same.
pub make_bat_command_line_same : (force : Bool) (script records text : List ℕ) (room : ℕ)
    → in_domain (batch_command_line force script records text room) ≡ true
    → any is_nul (script_of script) ≡ false
    → rust_says (make_bat_command_line script (args_of (arguments_of text records)) force) ≡ port_says (batch_command_line force script records text room)
unfolding batch_command_line
make_bat_command_line_same force script records text room h clean =
    let args = arguments_of text records in
    let whole = batch_line force (script_of script) args in
    let rest = unless (first_fault batch_finding args) (limited batch_limit room whole) in
    let e = arguments_sound text records (refuse 7 (is_no_script script) (refuse 5 (any is_nul (script_of script)) rest)) h in
    rw (e, clean) (make_bat_command_line_says force script args ∙ go args (is_no_script script) (rw (e, clean) at h))
  where
    go : (args : List Argument) (b : Bool)
        → in_domain (refuse 7 b (unless (first_fault batch_finding args) (limited batch_limit room (batch_line force (script_of script) args)))) ≡ true
        → pick b (refuses 7) (fault_says (first_fault batch_finding args) (batch_line force (script_of script) args))
        ≡ port_says (refuse 7 b (unless (first_fault batch_finding args) (limited batch_limit room (batch_line force (script_of script) args))))
    go args true h = refl
    go args false h = sym (unless_says (first_fault batch_finding args) batch_limit room (batch_line force (script_of script) args) h)
