use Rattle.std.proofs.Common.{◌≡◌, ℕ, ◌<◌, ◌/◌, ◌&&◌, ◌==◌, length, refl, ap, ◌∙◌, rules}
use Rattle.std.proofs.lemmas.Bool.{cond-false, ne_eqb}
use Rattle.std.specs.List.{slice_index}
use Rattle.addresses.specs.declared.transport.Parity.TheVariants.{Even, Odd}
use Rattle.port_range.specs.Words.{has_bit, AreOthers}
use Rattle.port_range.specs.Marks.{has_both}
use Rattle.port_range.proofs.Summing.{summary-said, written}
use Rattle.port_range.proofs.Keeping.{open-put, open-some, open-few}
use Rattle.port_range.proofs.marks.Marks.put_free.Goals as goal

pub recounted-self-inside-requires-clause-some : goal.recounted-self-inside-requires-clause-some
recounted-self-inside-requires-clause-some c =
    let i = c.self.inside in
    let number = c.from-number.result in
    let low : number < 65536 = search rules in
    open-some i.free.items i.owned.items number i.available c.has_both-was.result low
    (c.has_both-was.ensures ∙ ap (λ words. has_both words c.deref-2.result.now number) c.deref.ensures.value ∙ ap (λ words. has_both i.free.items words number) c.deref-2.ensures.value) c.self.invariant.counted

pub recounted-self-inside-requires-clause-few : goal.recounted-self-inside-requires-clause-few
recounted-self-inside-requires-clause-few c = open-few c.self.inside.free.items c.self.inside.owned.items c.self.inside.available c.self.invariant.counted

pub invariant_of-self : goal.invariant_of-self
invariant_of-self c =
    let i = c.self.inside in
    let index = c.from-number.result / 64 in
    let new = c.put_bit.new.words in
    let even = c.sum_up.new.summary in
    let odd = c.sum_up-2.new.summary in
    let size = c.put_bit.ensures.size ∙ c.deref_mut.ensures.len in
    let even_size = c.sum_up.ensures.size ∙ c.deref_mut-2.ensures.len in
    let odd_size = c.sum_up-2.ensures.size ∙ c.deref_mut-3.ensures.len in
    let back = written i.free.len new i.free.items size in
    let others : AreOthers index i.free.items new = λ at apart. c.put_bit.ensures.others at apart ∙ ap (λ words. slice_index words at) c.deref_mut.ensures.value in
    let number = c.from-number.result in
    let low : number < 65536 = search rules in
    let there : (q : ℕ) → (q ≡ number → ⊥) → has_bit new q ≡ has_bit i.free.items q = λ q apart. c.put_bit.ensures.bits q ∙ cond-false (q == number) c.args.flag (has_bit c.deref_mut.result.now q) (ne_eqb q number apart) ∙ ap (λ words. has_bit words q) c.deref_mut.ensures.value in
    let was : c.has_both-was.result ≡ has_both i.free.items i.owned.items number = c.has_both-was.ensures ∙ ap (λ words. has_both words c.deref-2.result.now number) c.deref.ensures.value ∙ ap (λ words. has_both i.free.items words number) c.deref-2.ensures.value in
    let is : c.has_both-is.result ≡ has_both new i.owned.items number = c.has_both-is.ensures ∙ ap (λ words. has_both words c.deref-4.result.now number) (c.deref-3.ensures.value ∙ back) ∙ ap (λ words. has_both new words number) c.deref-4.ensures.value in
    rw (back, written i.even.len even i.even.items even_size, written i.odd.len odd i.odd.items odd_size) record {
      free_size = c.put_bit.ensures.size ∙ ap length c.deref_mut.ensures.value ∙ c.self.invariant.free_size;
      owned_size = c.self.invariant.owned_size;
      summed_even = summary-said Even i.free.items i.owned.items i.even.items new i.owned.items even index c.deref-5.result.now c.deref-6.result.now c.deref_mut-2.result.now
          (c.deref-5.ensures.value ∙ back) c.deref-6.ensures.value c.deref_mut-2.ensures.value c.self.invariant.summed_even others (λ at apart. refl) c.sum_up.ensures.size c.sum_up.ensures.bits;
      summed_odd = summary-said Odd i.free.items i.owned.items i.odd.items new i.owned.items odd index c.deref-7.result.now c.deref-8.result.now c.deref_mut-3.result.now
          (c.deref-7.ensures.value ∙ back) c.deref-8.ensures.value c.deref_mut-3.ensures.value c.self.invariant.summed_odd others (λ at apart. refl) c.sum_up-2.ensures.size c.sum_up-2.ensures.bits;
      counted = open-put i.free.items i.owned.items new i.owned.items number i.available c.recounted-self-inside.result c.has_both-was.result c.has_both-is.result low (λ q apart. ap (λ b. b && has_bit i.owned.items q) (there q apart)) was is c.self.invariant.counted c.recounted-self-inside.ensures;
    }
