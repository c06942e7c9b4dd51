use Rattle.std.proofs.Common.{◌-◌, length, drop, arith, length-drop}
use Rattle.std.proofs.lemmas.List.{take_all}
use Rattle.packet_rules.proofs.asking.body_of.Goals as goal

pub returns : goal.returns
returns c = take_all (length c.args.bytes.now - 14) (drop 14 c.args.bytes.now) (omega (arith, length-drop 14 c.args.bytes.now))
