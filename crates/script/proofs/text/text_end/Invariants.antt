-- The text without the bytes after the place ends where the whole does.
use Rattle.std.proofs.Common.{◌≡◌, take}
use Rattle.script.specs.Places.{text_end}
use Rattle.script.proofs.text.text_end.Given as goal

abbrev pub invariant-loop-i : goal.invariant-loop-i
invariant-loop-i l = text_end l.s ≡ text_end (take l.i l.s)
