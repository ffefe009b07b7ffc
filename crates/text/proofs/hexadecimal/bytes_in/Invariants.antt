-- The bytes before place i are written, and those from there on are as they were.
use Rattle.std.proofs.Common.{◌≡◌, ℕ, ◌<◌, length, drop, get_or}
use Rattle.text.specs.Hexadecimal.{byte_at}
use Rattle.text.proofs.hexadecimal.bytes_in.Given as goal

abbrev pub invariant-loop-i : goal.invariant-loop-i
invariant-loop-i l = record {
  long : length l.buffer ≡ length l.initial.buffer;
  written : (k : ℕ) → k < l.i → get_or l.buffer k 0 ≡ byte_at l.s k;
  kept : drop l.i l.buffer ≡ drop l.i l.initial.buffer;
}
