-- `replies::answers::put_numbers` meets its contract. Assumes nothing.
use mathlib.Core.Path.{◌≡◌}
use Rattle.std.proofs.Common.{rules, drop}
use native.Mathlib.Omega.{arith}
use Rattle.std.proofs.lemmas.Grind.{common_steps}
use Rattle.replies.specs.Show.{number_bytes}
use Rattle.replies.proofs.answers.put_numbers.Goals as goal

pub returns : goal.returns
returns c =
    let rest : c.unwrap_or_default-rest.result.now ≡ drop c.args.from c.args.numbers.now = grind (arith, common_steps) in
    rw (← rest) (c.put_each.ensures (number_bytes c.args.negative) (λ d e q r x h. search rules))
