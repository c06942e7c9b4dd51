use Rattle.std.proofs.Common.{ℕ, ◌≡◌, ◌/◌, false, length, ap, ◌∙◌}
use Rattle.std.specs.List.{slice_index}
use Rattle.addresses.specs.declared.transport.Parity.TheVariants.{Even, Odd}
use Rattle.port_range.specs.Ports.{is_within}
use Rattle.port_range.specs.Marks.{open_count}
use Rattle.port_range.proofs.Summing.{summary-ranged, written}
use Rattle.port_range.proofs.marks.Marks.own_between.Goals as goal

pub invariant_of-self : goal.invariant_of-self
invariant_of-self c =
    let i = c.self.inside in
    let first = c.from-low.result / 64 in
    let last = c.from-high.result / 64 in
    let new = c.set_between.new.words in
    let even = c.sum_up_between.new.summary in
    let odd = c.sum_up_between-2.new.summary in
    let size = c.set_between.ensures.size ∙ c.deref_mut.ensures.len in
    let even_size = c.sum_up_between.ensures.size ∙ c.deref_mut-2.ensures.len in
    let odd_size = c.sum_up_between-2.ensures.size ∙ c.deref_mut-3.ensures.len in
    let back = written i.owned.len new i.owned.items size in
    let others : (at : ℕ) → is_within first last at ≡ false → slice_index new at ≡ slice_index i.owned.items at = λ at outside. c.set_between.ensures.others at outside ∙ ap (λ words. slice_index words at) c.deref_mut.ensures.value in
    rw (back, written i.even.len even i.even.items even_size, written i.odd.len odd i.odd.items odd_size) record {
      free_size = c.self.invariant.free_size;
      owned_size = c.set_between.ensures.size ∙ ap length c.deref_mut.ensures.value ∙ c.self.invariant.owned_size;
      summed_even = summary-ranged Even i.free.items i.owned.items i.even.items new even first last c.deref.result.now c.deref-2.result.now c.deref_mut-2.result.now
          c.deref.ensures.value (c.deref-2.ensures.value ∙ back) c.deref_mut-2.ensures.value c.self.invariant.summed_even others c.sum_up_between.ensures.size c.sum_up_between.ensures.bits;
      summed_odd = summary-ranged Odd i.free.items i.owned.items i.odd.items new odd first last c.deref-3.result.now c.deref-4.result.now c.deref_mut-3.result.now
          c.deref-3.ensures.value (c.deref-4.ensures.value ∙ back) c.deref_mut-3.ensures.value c.self.invariant.summed_odd others c.sum_up_between-2.ensures.size c.sum_up_between-2.ensures.bits;
      counted = c.count_both-self-inside.ensures ∙ ap (λ words. open_count words c.deref-6.result.now) c.deref-5.ensures.value ∙ ap (open_count i.free.items) (c.deref-6.ensures.value ∙ back);
    }
