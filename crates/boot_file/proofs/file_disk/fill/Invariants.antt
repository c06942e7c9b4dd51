use Rattle.std.proofs.Common.{◌≡◌, ◌≤◌, ◌-◌, ◌↔◌, length, take}
use Rattle.boot_store.specs.Moment.{bytes_of}
use Rattle.boot_file.proofs.file_disk.fill.Given as goal

abbrev pub invariant-loop-filled : goal.invariant-loop-filled
invariant-loop-filled g l = record {
  short : l.filled ≤ 32;
  long : length l.buffer ≡ 32;
  so_far : g.F.Blocks.honest l.fn.file → take l.filled l.buffer ≡ take l.filled (bytes_of (g.F.Blocks.now l.fn.file));
  same : g.F.Blocks.honest l.fn.file → g.F.Blocks.now l.file ≡ g.F.Blocks.now l.fn.file;
  passes : g.F.Blocks.honest l.fn.file → g.F.Blocks.past l.file ≡ g.F.Blocks.past l.fn.file;
  name : g.F.Blocks.honest l.fn.file → g.F.Blocks.named l.fn.file → g.F.Blocks.named l.file;
  taken : g.F.Blocks.honest l.fn.file → g.F.Blocks.refusals l.file ≡ g.F.Blocks.refusals l.fn.file;
  honesty : g.F.Blocks.honest l.fn.file ↔ g.F.Blocks.honest l.file;
}

abbrev pub decreases-loop-filled : goal.decreases-loop-filled
decreases-loop-filled g l = 32 - l.filled
