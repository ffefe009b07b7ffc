-- Working forward: what a step does to a seat, when it is possible there, and what taking the last step back does. Document 01, "Room, seats,
-- directory" and "Calls and refusals".
use Rattle.std.specs.Prelude.{Bool, not, ◌&&◌, ◌||◌, cond, List, [], ◌∷◌, ℕ, zero, suc, ◌+◌, ◌-◌, leb, eqb, Option, Some, None}
use Rattle.layout.specs.declared.rows.Head.{Head}
use Rattle.layout.specs.declared.rows.Settings.{Settings}
use Rattle.layout.specs.declared.rows.Account.{Account}
use Rattle.layout.specs.declared.rows.Step.{Step}
use Rattle.layout.specs.Seat.{head_of, with_head, account_of, with_account, step_of, with_step}
use Rattle.journal.specs.Steps.{set_kind, is_kind, moves, same_settings, step_fits, no_step}
use Rattle.journal.specs.Answers.{answerable}

-- an account with other settings; with money taken out, which counts as turnover, or put in; or both, where the balance stays
abbrev pub settled : Settings → Account → Account
settled x a = record { opening = a.opening; balance = a.balance; turnover = a.turnover; settings = x }

abbrev pub debited : ℕ → Account → Account
debited n a = record { opening = a.opening; balance = a.balance - n; turnover = a.turnover + n; settings = a.settings }

abbrev pub credited : ℕ → Account → Account
credited n a = record { opening = a.opening; balance = a.balance + n; turnover = a.turnover; settings = a.settings }

abbrev pub turned : ℕ → Account → Account
turned n a = record { opening = a.opening; balance = a.balance; turnover = a.turnover + n; settings = a.settings }

-- and the same taken back
abbrev pub undebited : ℕ → Account → Account
undebited n a = record { opening = a.opening; balance = a.balance + n; turnover = a.turnover - n; settings = a.settings }

abbrev pub uncredited : ℕ → Account → Account
uncredited n a = record { opening = a.opening; balance = a.balance - n; turnover = a.turnover; settings = a.settings }

abbrev pub unturned : ℕ → Account → Account
unturned n a = record { opening = a.opening; balance = a.balance; turnover = a.turnover - n; settings = a.settings }

-- the seat with one account changed
unfoldable pub changed : (Account → Account) → ℕ → List ℕ → List ℕ
changed f i s = with_account s i (f (account_of s i))

-- the movement of a step, forward and back. One account both times: the balance stays, turnover grows
unfoldable pub moved : Step → List ℕ → List ℕ
moved x s =
    cond (eqb x.debit x.credit) (changed (turned x.amount) x.debit s)
    (changed (credited x.amount) x.credit (changed (debited x.amount) x.debit s))

unfoldable pub unmoved : Step → List ℕ → List ℕ
unmoved x s =
    cond (eqb x.debit x.credit) (changed (unturned x.amount) x.debit s)
    (changed (undebited x.amount) x.debit (changed (uncredited x.amount) x.credit s))

-- what a step does to the accounts: a set gives its settings, a step that moves money moves its amount, anything else does nothing
unfoldable pub effect : Step → List ℕ → List ℕ
effect x s =
    cond (is_kind set_kind x) (changed (settled x.given) x.account s)
    (cond (moves x) (moved x s) s)

unfoldable pub uneffect : Step → List ℕ → List ℕ
uneffect x s =
    cond (is_kind set_kind x) (changed (settled x.old) x.account s)
    (cond (moves x) (unmoved x s) s)

abbrev pub counting : ℕ → Head → Head
counting n h = record { opening = h.opening; opened = h.opened; steps = n }

-- the seat with one step more, in the first free place
unfoldable pub stepped : Step → List ℕ → List ℕ
stepped x s = with_head (with_step (effect x s) (head_of s).steps x) (counting (suc (head_of s).steps) (head_of s))

-- the last step
abbrev pub last_step : List ℕ → Step
last_step s = step_of s ((head_of s).steps - 1)

-- the seat without its last step: what it did is taken back, and its place is zero again
unfoldable pub backed : List ℕ → List ℕ
backed s = with_head (with_step (uneffect (last_step s) s) ((head_of s).steps - 1) no_step) (counting ((head_of s).steps - 1) (head_of s))

-- a step is covered in a seat: a set's old settings are those of that moment, and no balance falls below zero. A balance is looked at after the
-- step, not between a debit and its credit
unfoldable pub covered : Step → List ℕ → Bool
covered x s =
    cond (is_kind set_kind x) (same_settings x.old (account_of s x.account).settings)
    (not (moves x) || eqb x.debit x.credit || leb x.amount (account_of s x.debit).balance)

-- a step is possible in a seat
unfoldable pub possible : Step → List ℕ → Bool
possible x s = step_fits x && covered x s && answerable x s

-- the steps of a journal, n of them from the k-th on
unfoldable pub steps_from : List ℕ → ℕ → ℕ → List Step
steps_from s k zero = []
steps_from s k (suc n) = step_of s k ∷ steps_from s (suc k) n

unfoldable pub journal_of : List ℕ → List Step
journal_of s = steps_from s 0 (head_of s).steps

-- the seat behind these steps, one after the other; none where one of them is not possible
unfoldable pub worked : List Step → List ℕ → Option (List ℕ)
worked [] s = Some s
worked (x ∷ xs) s = cond (possible x s) (worked xs (stepped x s)) None
