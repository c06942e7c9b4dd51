use Rattle.link.proofs.Lists.{values_written}
use Rattle.link.proofs.values.put_values.Goals as goal

pub returns : goal.returns
returns c =
    values_written c.args.out.now.items c.put_port.new.out.items c.put_port-2.new.out.items c.put_port-3.new.out.items c.put_port-4.new.out.items c.put_address.new.out.items c.put_address-2.new.out.items c.put.new.out.items
    _ _ _ _ _ _ _ c.put_port.ensures c.put_port-2.ensures c.put_port-3.ensures c.put_port-4.ensures c.put_address.ensures c.put_address-2.ensures c.put.ensures
