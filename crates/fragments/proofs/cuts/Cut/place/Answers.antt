use Rattle.std.proofs.Common.{◌≡◌, ◌≤◌, ◌<◌, ◌*◌, ℕ, length, ap, sym, subst, arith}
use Rattle.ipv4.specs.Header.{header_of, payload_of}
use Rattle.fragments.specs.Cut.{step_of}
use Rattle.fragments.proofs.Sizes.{count, counted, payload-size, place-eighths, place-within, sizes}
use Rattle.fragments.proofs.cuts.Cut.place.Goals as goal

pub returns-clause-within : goal.returns-clause-within
returns-clause-within c =
    let mtu = c.args.self.now.mtu in
    let packet = c.args.self.now.packet.bytes.now in
    let h = (header_of packet).header_length in
    let n = length (payload_of packet) in
    let there : c.args.k < count mtu h n (step_of mtu packet) = subst (λ (m : ℕ). c.args.k < m) (counted mtu packet c.args.self.now.packet.right) c.requires in
    let within : c.args.k * step_of mtu packet ≤ n = place-within mtu h n (step_of mtu packet) c.args.k (sizes mtu packet c.args.self.now.limits c.args.self.now.packet.right) there in
    subst (λ (s : ℕ). c.args.k * s ≤ n) (sym c.step.ensures.value) within

pub overflow_mul-result : goal.overflow_mul-result
overflow_mul-result c =
    let mtu = c.args.self.now.mtu in
    let packet = c.args.self.now.packet.bytes.now in
    let right = c.args.self.now.packet.right in
    let h = (header_of packet).header_length in
    let n = length (payload_of packet) in
    let there : c.args.k < count mtu h n (step_of mtu packet) = subst (λ (m : ℕ). c.args.k < m) (counted mtu packet right) c.requires in
    let within : c.args.k * step_of mtu packet ≤ n = place-within mtu h n (step_of mtu packet) c.args.k (sizes mtu packet c.args.self.now.limits right) there in
    let same : c.args.k * c.step.result ≡ c.args.k * step_of mtu packet = ap (λ (s : ℕ). c.args.k * s) c.step.ensures.value in
    let size = payload-size packet right.holds_header right.there in
    let short = c.args.self.now.short in
    omega (arith, within, same, size, short)

pub returns-clause-eighths : goal.returns-clause-eighths
returns-clause-eighths c =
    let mtu = c.args.self.now.mtu in
    let packet = c.args.self.now.packet.bytes.now in
    let eighths = place-eighths mtu (header_of packet).header_length (length (payload_of packet)) (step_of mtu packet) c.args.k (sizes mtu packet c.args.self.now.limits c.args.self.now.packet.right) in
    let same : c.args.k * c.step.result ≡ c.args.k * step_of mtu packet = ap (λ (s : ℕ). c.args.k * s) c.step.ensures.value in
    omega (arith, eighths, same)
