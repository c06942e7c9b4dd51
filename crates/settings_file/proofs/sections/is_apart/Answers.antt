use Rattle.std.proofs.Common.{IsTrue, not, true≢false, min, sym, subst, arith}
use Rattle.addresses.specs.Address.{IsIn}
use Rattle.settings_file.proofs.Apart.{lies_in_shorter}
use Rattle.settings_file.proofs.sections.is_apart.Goals as goal

pub returns-clause-apart : goal.returns-clause-apart
returns-clause-apart c apart both lies here =
    let shared : IsIn c.args.address.0 c.args.network.address.0 (min c.args.network.length c.args.length) =
    lies_in_shorter both c.args.address.0 c.args.network.address.0 c.args.length c.args.network.length (omega (arith, c.requires)) (omega (arith, c.args.network.in_range)) lies here in
    let within : IsTrue c.is_in.result = c.is_in.ensures.lies.1 (rw (c.new.ensures.address, c.new.ensures.length, c.min-shorter.ensures) shared) in
    true≢false (sym (subst (λ b. IsTrue (not b)) within apart))
