-- What a document shares is what its values share, and the first refusal by its parts.
use Rattle.std.proofs.Common.{◌≡◌, ◌∙◌, ℕ, List, false, true, Option, Some, None, option_map, option_and_then, Result, Ok, Err, IfOk, IfErr, IsErrAnd, OnOk, ap, refl, sym, subst}
use Rattle.std.proofs.lemmas.Option.{none-some, same_Some}
use Rattle.settings_file.specs.declared.faults.SettingFault.{SettingFault}
use Rattle.settings_file.specs.declared.faults.SettingFault.TheVariants as faults
use Rattle.settings_file.specs.declared.values.Values.{Values}
use Rattle.settings_file.specs.Assembled.{AreValues, IsAssembled, TellsValues, overlap_of, same_ids_of}
use Rattle.settings_file.specs.Faults.{TellsBad, first}
use Rattle.toml.specs.Data.{Data, Members}
use Rattle.settings.specs.declared.ranges.PortRange.{PortRange}
use Rattle.settings.specs.declared.gateway_settings.GatewaySettings.{GatewaySettings}
use Rattle.settings.specs.declared.whole.Settings.{Settings}
use Rattle.settings_file.specs.declared.keys.Section.{Section}
use Rattle.settings_file.specs.declared.keys.Section.TheVariants.{Inside, Outside, GatewayZero, GatewayOne}
use Rattle.settings_file.specs.declared.keys.Name.{Name}
use Rattle.settings_file.specs.declared.keys.Name.TheVariants.{Zero, One, Virtual, Link, InsidePort, OutsidePort}
use Rattle.settings_file.specs.declared.keys.Key.{Key}
use Rattle.settings_file.specs.Document.{address_at, number_at, number_in, optional_at, or_default, value_of}
use Rattle.settings_file.specs.Values.{IsRange, IsGateway}
use Rattle.settings_file.specs.Missing.{all_missing, first_missing}
use Rattle.settings_file.specs.Unknown.{first_unknown, least_from, unknown_of}
use Rattle.settings_file.specs.Works.{Works, cant_work}
use Rattle.settings_file.specs.Settings.{overlap, shares_port, shares_id, first_bad_value, refusal_of, HoldsValues, IsReadFrom, Tells, unknown_key, missing, bad_value, ranges_overlap, same_ids as same_ids_refusal}
use Rattle.settings_file.specs.Ids.{same_ids}

-- the ranges
ports_agree : (t : Members) (zero one : PortRange) → IsRange t Zero zero → IsRange t One one
    → shares_port t ≡ overlap (Some (zero.lowest.0, zero.highest.0)) (Some (one.lowest.0, one.highest.0))
unfolding shares_port
ports_agree t zero one a b = rw (a, b) refl

-- what is read where it is there is what is read where it may be left out
some_again : {X : Type 0} (o found : Option X) → option_map (λ x. Some x) o ≡ Some found → o ≡ found
some_again None found h = absurd (none-some found h)
some_again (Some x) found h = same_Some (Some x) found h

read_again : {X : Type 0} (read : Data → Option X) (value : Option Data) (found : Option X)
    → or_default None (λ d. option_map (λ x. Some x) (read d)) value ≡ Some found → option_and_then read value ≡ found
read_again read None found h = same_Some None found h
read_again read (Some d) found h = some_again (read d) found h

port_again : (t : Members) (s : Section) (name : Name) (found : Option ℕ) → optional_at 1 65535 t s name ≡ Some found → number_at 1 65535 t s name ≡ found
unfolding optional_at number_at
port_again t s name found h = read_again (number_in 1 65535) (value_of t s name) found h

-- the ids
ids_agree : (t : Members) (zero one : GatewaySettings) (inside outside : ℕ) → IsGateway t GatewayZero zero → IsGateway t GatewayOne one
    → address_at t Inside Virtual ≡ Some inside → address_at t Outside Virtual ≡ Some outside
    → shares_id t ≡ same_ids zero one inside outside
unfolding shares_id same_ids
ids_agree t zero one inside outside z o i e =
    rw (
      z.inside_ip_is,
      z.outside_ip_is,
      z.inside_mac_is,
      z.outside_mac_is,
      port_again t GatewayZero Link zero.link z.link_is,
      port_again t GatewayZero InsidePort zero.inside_port z.inside_port_is,
      port_again t GatewayZero OutsidePort zero.outside_port z.outside_port_is,
      o.inside_ip_is,
      o.outside_ip_is,
      o.inside_mac_is,
      o.outside_mac_is,
      port_again t GatewayOne Link one.link o.link_is,
      port_again t GatewayOne InsidePort one.inside_port o.inside_port_is,
      port_again t GatewayOne OutsidePort one.outside_port o.outside_port_is,
      i,
      e,
    ) refl

no_refusal : (t : Members) → first_unknown t ≡ None → first_missing t ≡ None → first_bad_value t ≡ None
    → shares_port t ≡ false → shares_id t ≡ false → refusal_of t ≡ None
unfolding refusal_of
no_refusal t u m b p i = rw (u, m, b, p, i) refl

pub refuses_unknown : (t : Members) (p : List ℕ) → first_unknown t ≡ Some p → refusal_of t ≡ Some (unknown_key p)
unfolding refusal_of
refuses_unknown t p u = rw u refl

pub refuses_missing : (t : Members) (k : Key) → first_unknown t ≡ None → first_missing t ≡ Some k → refusal_of t ≡ Some (missing k)
unfolding refusal_of
refuses_missing t k u m = rw (u, m) refl

refuses_value : (t : Members) (k : Key) → first_unknown t ≡ None → first_missing t ≡ None → first_bad_value t ≡ Some k
    → refusal_of t ≡ Some (bad_value k)
unfolding refusal_of
refuses_value t k u m b = rw (u, m, b) refl

refuses_ports : (t : Members) → first_unknown t ≡ None → first_missing t ≡ None → first_bad_value t ≡ None
    → shares_port t ≡ true → refusal_of t ≡ Some ranges_overlap
unfolding refusal_of
refuses_ports t u m b p = rw (u, m, b, p) refl

refuses_ids : (t : Members) → first_unknown t ≡ None → first_missing t ≡ None → first_bad_value t ≡ None
    → shares_port t ≡ false → shares_id t ≡ true → refusal_of t ≡ Some same_ids_refusal
unfolding refusal_of
refuses_ids t u m b p i = rw (u, m, b, p, i) refl

-- the least of the unknown paths, and the first of the missing keys
pub found_unknown : (t : Members) (paths : List (List ℕ)) (found : Option (List ℕ)) → paths ≡ unknown_of t → found ≡ least_from None paths
    → first_unknown t ≡ found
unfolding first_unknown
found_unknown t paths found is h = ap (λ l. least_from None l) (sym is) ∙ sym h

pub found_first : (all items shown : List Key) (found : Option Key) → items ≡ all → shown ≡ items → found ≡ first shown → first all ≡ found
found_first all items shown found is same h = ap first (sym is) ∙ ap first (sym same) ∙ sym h

pub found_missing : (t : Members) (items shown : List Key) (found : Option Key) → items ≡ all_missing t → shown ≡ items → found ≡ first shown
    → first_missing t ≡ found
unfolding first_missing
found_missing t items shown found is same h = found_first (all_missing t) items shown found is same h

-- a fault that is passed on
pub passed_on : {T E : Type 0} (r : Result T E) (e : E) (P : E → Type 0) → IsErrAnd r (λ y. y ≡ e) → P e → IfErr r P
passed_on (Ok x) e P is p = tt
passed_on (Err y) e P is p = subst P (sym is) p

-- a fault of the values
pub told_values : (t : Members) (f : SettingFault) → first_unknown t ≡ None → first_missing t ≡ None → TellsBad (first_bad_value t) f → Tells (Some t) f
told_values t (faults.NotToml) u m h = absurd h
told_values t (faults.UnknownKey p) u m h = absurd h
told_values t (faults.Missing k) u m h = absurd h
told_values t (faults.BadValue k) u m h = refuses_value t k u m h
told_values t (faults.RangesOverlap) u m h = absurd h
told_values t (faults.SameIds) u m h = absurd h
told_values t (faults.CantWork k) u m h = absurd h
told_values t (faults.NoMemory) u m h = tt

-- settings made of the values of a document
holds : (t : Members) (v : Values) (s : Settings) → AreValues t v → IsAssembled v s → HoldsValues t s
holds t v s a h = record {
  zero_ports = rw h.zero_ports a.zero_ports;
  one_ports = rw h.one_ports a.one_ports;
  limit_is = rw h.host_limit a.limit_is;
  alone_is = rw h.alone a.alone_is;
  refresh_is = rw h.inward_refresh a.refresh_is;
  choice_is = rw h.choice a.choice_is;
  ahead_is = rw h.ahead a.ahead_is;
  inside_is = rw h.inside a.inside_is;
  outside_is = rw h.outside a.outside_is;
  router_is = rw h.router a.router_is;
  icmp_is = rw h.icmp a.icmp_is;
  fragments_are = rw h.fragments a.fragments_are;
  vrrp_is = rw h.vrrp a.vrrp_is;
  zero_is = rw h.zero a.zero_is;
  one_is = rw h.one a.one_is;
  neighbours_are = rw h.neighbours a.neighbours_are;
}

shares_port_of : (t : Members) (v : Values) → AreValues t v → shares_port t ≡ overlap_of v
shares_port_of t v a = ports_agree t v.zero_ports v.one_ports a.zero_ports a.one_ports

shares_id_of : (t : Members) (v : Values) → AreValues t v → shares_id t ≡ same_ids_of v
shares_id_of t v a =
    ids_agree t v.zero v.one v.inside.virtual_ip.0 v.outside.virtual_ip.0 a.zero_is a.one_is a.inside_is.virtual_is a.outside_is.virtual_is

free_of : (t : Members) (v : Values) (s : Settings) → first_unknown t ≡ None → first_missing t ≡ None → first_bad_value t ≡ None
    → AreValues t v → IsAssembled v s → refusal_of t ≡ None
free_of t v s u m b a h = no_refusal t u m b (shares_port_of t v a ∙ h.disjoint) (shares_id_of t v a ∙ h.distinct)

-- a fault of ranges or ids
told_assembled : (t : Members) (v : Values) (e : SettingFault) → first_unknown t ≡ None → first_missing t ≡ None → first_bad_value t ≡ None
    → AreValues t v → TellsValues v e → Tells (Some t) e
told_assembled t v (faults.NotToml) u m b a h = absurd h
told_assembled t v (faults.UnknownKey p) u m b a h = absurd h
told_assembled t v (faults.Missing k) u m b a h = absurd h
told_assembled t v (faults.BadValue k) u m b a h = absurd h
told_assembled t v (faults.RangesOverlap) u m b a h = refuses_ports t u m b (shares_port_of t v a ∙ h)
told_assembled t v (faults.SameIds) u m b a h = refuses_ids t u m b (shares_port_of t v a ∙ h.0) (shares_id_of t v a ∙ h.1)
told_assembled t v (faults.CantWork k) u m b a h = absurd h
told_assembled t v (faults.NoMemory) u m b a h = absurd h

-- what comes of the values of a document that has no unknown, missing or bad key
pub free : (t : Members) (v : Values) (r : Result Settings SettingFault) → first_unknown t ≡ None → first_missing t ≡ None
    → first_bad_value t ≡ None → AreValues t v → IfOk r (IsAssembled v) → OnOk r (refusal_of t ≡ None)
free t v (Ok s) u m b a h = free_of t v s u m b a h
free t v (Err e) u m b a h = tt

pub held : (t : Members) (v : Values) (r : Result Settings SettingFault) → AreValues t v → IfOk r (IsAssembled v) → IfOk r (HoldsValues t)
held t v (Ok s) a h = holds t v s a h
held t v (Err e) a h = tt

pub told_of : (t : Members) (v : Values) (r : Result Settings SettingFault) → first_unknown t ≡ None → first_missing t ≡ None
    → first_bad_value t ≡ None → AreValues t v → IfErr r (TellsValues v) → IfErr r (Tells (Some t))
told_of t v (Ok s) u m b a h = tt
told_of t v (Err e) u m b a h = told_assembled t v e u m b a h

-- settings that are held, and can work or not
pub read_from : (document : Option Members) (t : Members) (s : Settings) → document ≡ Some t → refusal_of t ≡ None → HoldsValues t s → Works s
    → IsReadFrom document s
read_from document t s is free values works = ((t, is, free, values), works)

pub told_cant : (document : Option Members) (t : Members) (s : Settings) (k : Key) → document ≡ Some t → refusal_of t ≡ None → HoldsValues t s
    → cant_work s ≡ Some k → Tells document (faults.CantWork k)
told_cant document t s k is free values h = (s, (t, is, free, values), h)
