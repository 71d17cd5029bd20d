-- `parse_lp_cmd_line`, statement by statement. Assumes nothing.
-- Behind each line stands where it is in the Rust: `args` is sys/args/windows.rs.
use Rattle.std.specs.Prelude.{ℕ, zero, suc, ◌+◌, ◌/◌, ◌%◌, Bool, true, false, List, [], ◌∷◌, length, if◌then◌else◌, ◌==◌, ◌&&◌, ◌||◌}
use Rattle.std.proofs.Math.Option.{Option, none, some}
use Rattle.original.specs.Language.{◌==Some◌, !◌, u16, ControlFlow, Continue, Break, go_on}
use Rattle.original.specs.Shims.{is_none, and_then, unwrap, non_zero, push, extend, times, is-empty, from_wide, peek, next, advance_while}

-- `BACKSLASH`
abbrev pub BACKSLASH : ℕ
BACKSLASH = unwrap 0 (non_zero (u16 "\\"))  -- args 58

-- `QUOTE`
abbrev pub QUOTE : ℕ
QUOTE = unwrap 0 (non_zero (u16 "\""))  -- args 59

-- `TAB`
abbrev pub TAB : ℕ
TAB = unwrap 0 (non_zero (u16 "\t"))  -- args 60

-- `SPACE`
abbrev pub SPACE : ℕ
SPACE = unwrap 0 (non_zero (u16 " "))  -- args 61

-- ---- the name of the executable

-- the `match` on one unit of it
abbrev pub match_w0 : List ℕ → Bool → ℕ → ControlFlow (List ℕ × Bool)
match_w0 cur in-quotes w =
    if w == QUOTE then (do  -- args 79
      let in-quotes = ! in-quotes
      Continue (cur, in-quotes))
    else if (w == SPACE || w == TAB) && ! in-quotes then Break (cur, in-quotes)  -- args 81
    else (do  -- args 83
      let cur = push cur w
      Continue (cur, in-quotes))

-- the loop over the name's units
unfoldable pub for_w : List ℕ → Bool → List ℕ → List ℕ × Bool × List ℕ
for_w cur in-quotes [] = (cur, in-quotes, [])  -- args 85
for_w cur in-quotes (w ∷ code-units) =  -- args 75
    go_on (match_w0 cur in-quotes w) (λ (cur, in-quotes). for_w cur in-quotes code-units) (λ (cur, in-quotes). (cur, in-quotes, code-units))  -- args 76

-- ---- the arguments

-- the locals of the loop: ret-val, cur, in-quotes, code-units
abbrev pub Locals : Type 0
Locals = List (List ℕ) × List ℕ × Bool × List ℕ

-- the `match` on what `peek` gives
abbrev pub match_peek : List (List ℕ) → List ℕ → Bool → List ℕ → Option ℕ → ControlFlow Locals
match_peek ret-val cur in-quotes code-units (some w) =
    if w == QUOTE then (do  -- args 133
      let cur = push cur QUOTE  -- args 134
      let code-units = next code-units  -- args 135
      Continue (ret-val, cur, in-quotes, code-units))
    else (do  -- args 138
      let in-quotes = false
      Continue (ret-val, cur, in-quotes, code-units))
match_peek ret-val cur in-quotes code-units none = Break (ret-val, cur, in-quotes, code-units)  -- args 141

-- the `match` on one unit of them
unfoldable pub match_w : List (List ℕ) → List ℕ → Bool → ℕ → List ℕ → ControlFlow Locals
unfolding advance_while
match_w ret-val cur in-quotes w code-units =
    if (w == SPACE || w == TAB) && ! in-quotes then (do  -- args 107
      let ret-val = push ret-val (from_wide cur)  -- args 108
      let cur : List ℕ = []  -- args 109
      let (_, code-units) = advance_while (λ w. w == SPACE || w == TAB) code-units  -- args 112
      Continue (ret-val, cur, in-quotes, code-units))
    else if w == BACKSLASH then (do  -- args 115
      let (count, code-units) = advance_while (λ w. w == BACKSLASH) code-units  -- args 116
      let backslash-count = count + 1  -- args 116
      let (cur, code-units) : List ℕ × List ℕ =
          if peek code-units ==Some QUOTE then (do  -- args 117
            let cur = extend cur (times (backslash-count / 2) BACKSLASH)  -- args 118
            let (cur, code-units) : List ℕ × List ℕ =
                if backslash-count % 2 == 1 then (do  -- args 120
                  let code-units = next code-units  -- args 121
                  let cur = push cur QUOTE  -- args 122
                  (cur, code-units))
                else (cur, code-units)  -- args 123
            (cur, code-units))
          else (do  -- args 124
            let cur = extend cur (times backslash-count BACKSLASH)  -- args 126
            (cur, code-units))
      Continue (ret-val, cur, in-quotes, code-units))
    else if w == QUOTE && in-quotes then match_peek ret-val cur in-quotes code-units (peek code-units)  -- args 131
    else if w == QUOTE then (do  -- args 144
      let in-quotes = true
      Continue (ret-val, cur, in-quotes, code-units))
    else (do  -- args 146
      let cur = push cur w
      Continue (ret-val, cur, in-quotes, code-units))

-- the loop over the arguments' units, for at most so many turns. As many as there are units are enough: `while_same` in ForParseLpCmdLine.
unfoldable pub while_w : ℕ → List (List ℕ) → List ℕ → Bool → List ℕ → Locals
unfolding match_w
while_w zero ret-val cur in-quotes code-units = (ret-val, cur, in-quotes, code-units)  -- no line of the Rust: no turns are left
while_w (suc turns) ret-val cur in-quotes [] = (ret-val, cur, in-quotes, [])  -- args 148
while_w (suc turns) ret-val cur in-quotes (w ∷ code-units) =  -- args 104
    go_on (match_w ret-val cur in-quotes w code-units)  -- args 105
    (λ (ret-val, cur, in-quotes, code-units). while_w turns ret-val cur in-quotes code-units)
    (λ locals. locals)

-- `parse_lp_cmd_line`, over what stands for a panic
unfoldable pub parse_lp_cmd_line_by : List ℕ → Option (List ℕ) → List ℕ → List (List ℕ)
unfolding for_w advance_while while_w
parse_lp_cmd_line_by panic lp-cmd-line exe-name =  -- args 54
    let ret-val : List (List ℕ) = [] in  -- args 63
    if is_none (and_then lp-cmd-line peek) then push ret-val exe-name  -- args 66 - 69
    else (do
      let code-units = unwrap panic lp-cmd-line  -- args 70
      let in-quotes = false  -- args 73
      let cur : List ℕ = []  -- args 74
      let (cur, in-quotes, code-units) = for_w cur in-quotes code-units  -- args 75
      let (_, code-units) = advance_while (λ w. w == SPACE || w == TAB) code-units  -- args 87
      let ret-val = push ret-val (from_wide cur)  -- args 88
      let cur : List ℕ = []  -- args 102
      let in-quotes = false  -- args 103
      let (ret-val, cur, in-quotes, code-units) = while_w (length code-units) ret-val cur in-quotes code-units  -- args 104
      let ret-val = if ! is-empty cur || in-quotes then push ret-val (from_wide cur) else ret-val  -- args 150 - 152
      ret-val)  -- args 153

-- `parse_lp_cmd_line`
unfoldable pub parse_lp_cmd_line : Option (List ℕ) → List ℕ → List (List ℕ)
unfolding parse_lp_cmd_line_by
parse_lp_cmd_line lp-cmd-line exe-name = parse_lp_cmd_line_by [] lp-cmd-line exe-name
