use Rattle.std.proofs.Common.{◌∙◌, refl, arith}
use Rattle.sums.proofs.Words.{goes-on}
use Rattle.sums.proofs.long_total.Goals as goal

pub loop-rest-preserved : goal.loop-rest-preserved
loop-rest-preserved c = record {
  so_far = goes-on 65536 32768 c.loop-rest.total c.folded.result c.short_total.result c.add-total.result c.loop-rest.rest.now c.split_at.result.0.now c.split_at.result.1.now refl (omega arith) c.split_at.ensures.front c.split_at.ensures.back c.folded.ensures c.short_total.ensures c.add-total.ensures.value ∙ c.loop-rest.invariant.so_far;
}
