use Rattle.std.proofs.Common.{refl, arith}
use Rattle.icmp.specs.Own.{quoted}
use Rattle.icmp.proofs.Quoting.{quoted-told, quoted-flows}
use Rattle.icmp.proofs.Saying.{right_message, second-written}
use Rattle.icmp.proofs.own.own_error_law.Goals as goal

pub returns-clause-exceeded : goal.returns-clause-exceeded
returns-clause-exceeded c = λ packet ip translatable. record {
  error = record {
    long = omega arith;
    kind = refl;
    sum = right_message 11 0 0 0 (quoted packet);
    inside = quoted-told packet ip translatable;
  };
  kind_is = refl;
  code_is = refl;
  parameter_is = refl;
  inside = refl;
  flow = quoted-flows packet ip translatable;
}

pub returns-clause-too_long : goal.returns-clause-too_long
returns-clause-too_long c = λ packet mtu ip translatable fits. record {
  error = record {
    long = omega arith;
    kind = refl;
    sum = right_message 3 4 0 mtu (quoted packet);
    inside = quoted-told packet ip translatable;
  };
  kind_is = refl;
  code_is = refl;
  parameter_is = second-written mtu fits;
  inside = refl;
  flow = quoted-flows packet ip translatable;
}
