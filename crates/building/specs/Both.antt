-- The two kinds of line of the document, by the one definition that serves both. Assumes nothing.
use Rattle.std.specs.Prelude.{ℕ, ◌≡◌, refl, Bool, true, false, List}
use Rattle.std.proofs.Common.{sym, ap, append-nil}
use Rattle.rules.specs.Choice.{any}
use Rattle.rules.specs.Unit.{is_nul}
use Rattle.rules.specs.Outcome.{refuse, first_fault, unless, limited}
use Rattle.rules.specs.Record.{Argument, arguments_of, argument_fault}
use Rattle.rules.specs.Building.{line_limit, nul_finding, line, batch_line, command_line, batch_command_line, either_line}
use Rattle.names.specs.Name.{name_of, front_of, head_of}
use Rattle.records.specs.Records.{records_of}
use Rattle.adding.specs.declared.styles.Style.{Style}
use Rattle.adding.specs.Limits.{limit_of}
use Rattle.adding.specs.Added.{rule_of}
use Rattle.building.specs.Line.{whole_line, line_limited, line_named, line_outcome}

-- an ordinary line, its quotes forced or not
abbrev ordinary : Bool → Style
ordinary force = record { batch = false; force = force }

-- it has no front and no end
same_line : (force : Bool) (program : List ℕ) (args : List Argument) → line force program args ≡ whole_line (ordinary force) program args
unfolding line whole_line head_of front_of rule_of
same_line force program args = sym (append-nil (line force program args))

-- what building comes to
pub either_is : (batch force : Bool) (lent records text : List ℕ) (room : ℕ)
    → either_line batch force lent records text room
    ≡ line_outcome (record { batch = batch; force = force }) lent text (argument_fault text records) (records_of records) room
unfolding command_line batch_command_line arguments_of batch_line records_of line_outcome line_named line_limited limit_of whole_line head_of front_of name_of rule_of
either_is true force script records text room = refl
either_is false force program records text room =
    let args = arguments_of text records in
    ap
    (λ (l : List ℕ). unless (argument_fault text records) (refuse 5 (any is_nul program) (unless (first_fault nul_finding args) (limited line_limit room l))))
    (same_line force program args)
