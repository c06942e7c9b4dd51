-- The values that the two gateways of a pair have alike.
use Rattle.std.specs.Prelude.{◌<◌, ◌^◌, ◌==◌, ◌&&◌, Bool}
use Rattle.settings.specs.declared.values.Values.{Values}
use Rattle.settings.specs.declared.whole.Settings.{Settings}

-- the values of settings
abbrev pub values_of : Settings → Values
values_of settings = record {
  zero_lowest = settings.ports.zero.lowest;
  zero_highest = settings.ports.zero.highest;
  one_lowest = settings.ports.one.lowest;
  one_highest = settings.ports.one.highest;
  inside_virtual = settings.inside.virtual_ip;
  outside_virtual = settings.outside.virtual_ip;
  inside_prefix = settings.inside.prefix_length;
  outside_prefix = settings.outside.prefix_length;
}

-- whether two have the same ranges, and the same networks
abbrev pub same_ranges : Values → Values → Bool
same_ranges v w =
    (v.zero_lowest.0 == w.zero_lowest.0) && (v.zero_highest.0 == w.zero_highest.0)
    && (v.one_lowest.0 == w.one_lowest.0) && (v.one_highest.0 == w.one_highest.0)

abbrev pub same_networks : Values → Values → Bool
same_networks v w =
    (v.inside_virtual.0 == w.inside_virtual.0) && (v.outside_virtual.0 == w.outside_virtual.0)
    && (v.inside_prefix == w.inside_prefix) && (v.outside_prefix == w.outside_prefix)

-- whether two have each value alike
unfoldable pub same_values : Values → Values → Bool
same_values v w = same_ranges v w && same_networks v w

-- ports of 16 bits, addresses of 32, prefix lengths of 8
pub record AreInWidth (v : Values) : Type 0 where
  pub zero_lowest : v.zero_lowest.0 < 2 ^ 16
  pub zero_highest : v.zero_highest.0 < 2 ^ 16
  pub one_lowest : v.one_lowest.0 < 2 ^ 16
  pub one_highest : v.one_highest.0 < 2 ^ 16
  pub inside_virtual : v.inside_virtual.0 < 2 ^ 32
  pub outside_virtual : v.outside_virtual.0 < 2 ^ 32
  pub inside_prefix : v.inside_prefix < 2 ^ 8
  pub outside_prefix : v.outside_prefix < 2 ^ 8
