-- A row and its numbers say the same: what is written is read again, and as many numbers as a row has are a row.
-- Assumes nothing.
use mathlib.Core.Path.{◌≡◌, refl, sym, ap, subst, ◌∙◌}
use mathlib.Core.List.{List}
use Prim.Native.Nat.{ℕ, ◌+◌}
use lib.Dec.{lit<}
use lib.ListN.{length, get_or, drop}
use lib.Seq.{get_or-take, get_or-drop}
use Rattle.shape.proofs.Places.{bytes_whole}
use Rattle.layout.specs.declared.rows.Head.{Head}
use Rattle.layout.specs.declared.rows.Account.{Account}
use Rattle.layout.specs.declared.rows.Step.{Step}
use Rattle.layout.specs.Rows.{head_long, head_row, head_in, account_long, account_row, account_in, step_long, step_row, step_in}
use Rattle.layout.specs.Parts.{part}
use Rattle.layout.specs.Seat.{step_from, step_of}

-- how many numbers a row has
pub head-length : (h : Head) → length (head_row h) ≡ head_long
unfolding head_row
head-length h = refl

pub account-length : (a : Account) → length (account_row a) ≡ account_long
unfolding account_row
account-length a = refl

pub step-length : (x : Step) → length (step_row x) ≡ step_long
unfolding step_row
step-length x = refl

-- a row is read as it was written
pub head_read : (h : Head) → head_in (head_row h) ≡ h
unfolding head_in head_row
head_read h = refl

pub account-read : (a : Account) → account_in (account_row a) ≡ a
unfolding account_in account_row
account-read a = refl

pub step-read : (x : Step) → step_in (step_row x) ≡ x
unfolding step_in step_row
step-read x = refl

-- the step that a step answers, by its place in the seat
pub answers-place : (s : List ℕ) (k : ℕ) → get_or s (step_from k + 30) 0 ≡ (step_of s k).answers
unfolding step_of step_in part
answers-place s k = sym (get_or-take step_long (drop (step_from k) s) 30 0 (lit< tt) ∙ get_or-drop (step_from k) s 30 0)

-- numbers, as many as a row has, are the row that they are read as
pub head-whole : (s : List ℕ) → length s ≡ head_long → head_row (head_in s) ≡ s
unfolding head_row head_in
head-whole s e = subst (λ (t : List ℕ). head_row (head_in t) ≡ t) (bytes_whole s head_long e) refl

pub account-whole : (s : List ℕ) → length s ≡ account_long → account_row (account_in s) ≡ s
unfolding account_row account_in
account-whole s e = subst (λ (t : List ℕ). account_row (account_in t) ≡ t) (bytes_whole s account_long e) refl

pub step-whole : (s : List ℕ) → length s ≡ step_long → step_row (step_in s) ≡ s
unfolding step_row step_in
step-whole s e = subst (λ (t : List ℕ). step_row (step_in t) ≡ t) (bytes_whole s step_long e) refl

-- numbers that are read as the same row are the same
pub same_head : (s t : List ℕ) → length s ≡ head_long → length t ≡ head_long → head_in s ≡ head_in t → s ≡ t
same_head s t d e h = sym (head-whole s d) ∙ ap head_row h ∙ head-whole t e

pub same-account : (s t : List ℕ) → length s ≡ account_long → length t ≡ account_long → account_in s ≡ account_in t → s ≡ t
same-account s t d e h = sym (account-whole s d) ∙ ap account_row h ∙ account-whole t e

pub same_step : (s t : List ℕ) → length s ≡ step_long → length t ≡ step_long → step_in s ≡ step_in t → s ≡ t
same_step s t d e h = sym (step-whole s d) ∙ ap step_row h ∙ step-whole t e

-- what stands in a block, counted from the block's first place
pub block-place : (s : List ℕ) (from k : ℕ) → get_or s (from + k) 0 ≡ get_or (drop from s) k 0
block-place s from k = sym (get_or-drop from s k 0)

pub ruleset in_a_block = block-place

pub ruleset answered = answers-place
