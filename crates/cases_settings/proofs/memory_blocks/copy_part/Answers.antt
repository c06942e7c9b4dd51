use Rattle.std.proofs.Common.{◌≡◌, ℕ, ◌+◌, ◌-◌, length, take, drop, ◌∙◌, ap, arith}
use Rattle.std.proofs.lemmas.List.{length-take, take_at}
use Rattle.cases_settings.proofs.memory_blocks.copy_part.Goals as goal

pub returns-clause-bytes : goal.returns-clause-bytes
returns-clause-bytes c =
    let n = c.part_length-count.result in
    let copied = c.copy_from_slice.new.self in
    let size : length copied ≡ n = omega (arith, c.copy_from_slice.ensures.len, c.part_length-count.ensures.room, length-take n c.args.room.now, length-take (n - 0) c.args.room.now) in
    let whole : c.args.at + n - c.args.at ≡ n = omega arith in
    take_at copied _ n size ∙ c.copy_from_slice.ensures.after ∙ ap (λ (m : ℕ). take m (drop c.args.at c.args.bytes.now)) whole
