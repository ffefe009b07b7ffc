-- Of each public function: no second answer satisfies its contract.
-- Assumes nothing.
use Rattle.shape.proofs.Single.{Settled, by-equation}
use Rattle.script.proofs.text.is_blank.Kinds as is-blank-kinds
use Rattle.script.proofs.text.is_blank.Reads as is-blank-reads
use Rattle.script.proofs.text.skip_blanks.Kinds as skip-blanks-kinds
use Rattle.script.proofs.text.skip_blanks.Reads as skip-blanks-reads
use Rattle.script.proofs.text.word_end.Kinds as word-end-kinds
use Rattle.script.proofs.text.word_end.Reads as word-end-reads
use Rattle.script.proofs.text.find.Kinds as find-kinds
use Rattle.script.proofs.text.find.Reads as find-reads
use Rattle.script.proofs.text.text_end.Kinds as text-end-kinds
use Rattle.script.proofs.text.text_end.Reads as text-end-reads
use Rattle.script.proofs.line_end.Kinds as line-end-kinds
use Rattle.script.proofs.line_end.Reads as line-end-reads
use Rattle.script.proofs.read_line.Kinds as read-line-kinds
use Rattle.script.proofs.read_line.Reads as read-line-reads

pub is-blank : Settled _ is-blank-kinds.ps is-blank-kinds.r is-blank-reads.Post
is-blank κs a x y e f = by-equation

pub skip-blanks : Settled _ skip-blanks-kinds.ps skip-blanks-kinds.r skip-blanks-reads.Post
skip-blanks κs a x y e f = by-equation

pub word_end : Settled _ word-end-kinds.ps word-end-kinds.r word-end-reads.Post
word_end κs a x y e f = by-equation

pub find : Settled _ find-kinds.ps find-kinds.r find-reads.Post
find κs a x y e f = by-equation

pub text-end : Settled _ text-end-kinds.ps text-end-kinds.r text-end-reads.Post
text-end κs a x y e f = by-equation

pub line-end : Settled _ line-end-kinds.ps line-end-kinds.r line-end-reads.Post
line-end κs a x y e f = by-equation

pub read-line : Settled _ read-line-kinds.ps read-line-kinds.r read-line-reads.Post
read-line κs a x y e f = by-equation
