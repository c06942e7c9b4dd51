use Rattle.std.proofs.Common.{rules}
use Rattle.command_line.proofs.Texts.{not_parsed, parsed, refused}
use Rattle.command_line.proofs.filters.address_of.Goals as goal

pub returns-in_err-found : goal.returns-in_err-found
returns-in_err-found c =
    refused _ _ c.from_residual.result (search rules) (not_parsed c.args.text.now c.parse.result c.parse.ensures.value (search rules))

pub returns : goal.returns
returns c = record {
  address = c.in_ok-found.found;
  written = parsed c.args.text.now c.parse.result _ c.parse.ensures.value (search rules);
  bits = c.to_bits.ensures;
}
