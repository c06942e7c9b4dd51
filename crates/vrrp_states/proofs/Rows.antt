-- Rows by which the definitions are checked: an interval of 100 cs at priorities 1, 100 and 254.
use Rattle.std.proofs.Common.{◌≡◌, refl}
use Rattle.vrrp_states.specs.Table.{skew_time, active_down_interval}

row_skew_1 : skew_time 1 100 ≡ 99
row_skew_1 = refl

row_skew_100 : skew_time 100 100 ≡ 60
row_skew_100 = refl

row_skew_254 : skew_time 254 100 ≡ 0
row_skew_254 = refl

row_down_1 : active_down_interval 1 100 ≡ 399
row_down_1 = refl

row_down_100 : active_down_interval 100 100 ≡ 360
row_down_100 = refl

row_down_254 : active_down_interval 254 100 ≡ 300
row_down_254 = refl
