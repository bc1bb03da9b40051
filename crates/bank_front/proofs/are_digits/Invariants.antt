use Rattle.std.proofs.Common.{◌≡◌, length, ◌-◌, ◌*◌, ◌≤◌, ◌%◌, drop}
use Rattle.std.specs.Slice.Iter.{chunks_exact_rest, chunks_exact_size}
use Rattle.run.specs.First.{Every, at_most}
use Rattle.bank_front.proofs.are_digits.Given as goal

abbrev pub invariant-loop-part : goal.invariant-loop-part
invariant-loop-part l = record {
  size : chunks_exact_size l.part-iterator ≡ 16;
  left : chunks_exact_rest l.part-iterator ≡ drop (16 * length l.yielded) l.s;
  inside : 16 * length l.yielded ≤ length l.s;
  good : Every (at_most 2 l.s) (16 * length l.yielded);
  behind : l.rest ≡ drop (length l.s - length l.s % 16) l.s;
}
