use Rattle.std.proofs.Common.{◌∙◌, sym}
use Rattle.settings_file.proofs.Apart.{not_shared}
use Rattle.settings_file.proofs.values.Values.assemble.Goals as goal

pub invariant_of-result-clause-zero_inside : goal.invariant_of-result-clause-zero_inside
invariant_of-result-clause-zero_inside c =
    record { lies = c.args.self.zero_inside; other = (not_shared _ c.args.self.one _ c.args.self.outside.virtual_ip.0 (sym c.same_ids.ensures ∙ c.if-same_ids.false)).0.0 }

pub invariant_of-result-clause-zero_outside : goal.invariant_of-result-clause-zero_outside
invariant_of-result-clause-zero_outside c =
    record { lies = c.args.self.zero_outside; other = (not_shared _ c.args.self.one c.args.self.inside.virtual_ip.0 _ (sym c.same_ids.ensures ∙ c.if-same_ids.false)).0.1 }

pub invariant_of-result-clause-one_inside : goal.invariant_of-result-clause-one_inside
invariant_of-result-clause-one_inside c =
    record { lies = c.args.self.one_inside; other = (not_shared c.args.self.zero _ _ c.args.self.outside.virtual_ip.0 (sym c.same_ids.ensures ∙ c.if-same_ids.false)).1.0 }

pub invariant_of-result-clause-one_outside : goal.invariant_of-result-clause-one_outside
invariant_of-result-clause-one_outside c =
    record { lies = c.args.self.one_outside; other = (not_shared c.args.self.zero _ c.args.self.inside.virtual_ip.0 _ (sym c.same_ids.ensures ∙ c.if-same_ids.false)).1.1 }
