-- The rows of a seat as numbers, each in the order of its struct: the head, an account, a step. docs/LAYOUT.md says what each number means and
-- what its range is; the ranges are tested by the fitness of a seat, not here.
use Rattle.std.specs.Prelude.{List, [], ◌∷◌, ◌++◌, ℕ, get_or, drop}
use Rattle.shape.specs.declared.stored.Identifier.{Identifier}
use Rattle.layout.specs.declared.rows.Head.{Head}
use Rattle.layout.specs.declared.rows.Settings.{Settings}
use Rattle.layout.specs.declared.rows.Account.{Account}
use Rattle.layout.specs.declared.rows.Step.{Step}

-- how many numbers each row has
abbrev pub head_long : ℕ
head_long = 3

abbrev pub account_long : ℕ
account_long = 7

abbrev pub step_long : ℕ
step_long = 31

unfoldable pub head_row : Head → List ℕ
head_row h = h.opening ∷ h.opened ∷ h.steps ∷ []

unfoldable pub head_in : List ℕ → Head
head_in s = record { opening = get_or s 0 0; opened = get_or s 1 0; steps = get_or s 2 0 }

abbrev pub settings_row : Settings → List ℕ
settings_row x = x.out ∷ x.into ∷ x.ltk ∷ x.lpo ∷ []

abbrev pub settings_from : List ℕ → ℕ → Settings
settings_from s i = record { out = get_or (drop i s) 0 0; into = get_or (drop i s) 1 0; ltk = get_or (drop i s) 2 0; lpo = get_or (drop i s) 3 0 }

unfoldable pub account_row : Account → List ℕ
account_row a = a.opening ∷ a.balance ∷ a.turnover ∷ settings_row a.settings

unfoldable pub account_in : List ℕ → Account
account_in s = record { opening = get_or s 0 0; balance = get_or s 1 0; turnover = get_or s 2 0; settings = settings_from s 3 }

abbrev pub identifier_row : Identifier → List ℕ
identifier_row x = x.first ∷ x.second ∷ x.third ∷ x.fourth ∷ x.fifth ∷ []

abbrev pub identifier_from : List ℕ → ℕ → Identifier
identifier_from s i = record {
  first = get_or (drop i s) 0 0;
  second = get_or (drop i s) 1 0;
  third = get_or (drop i s) 2 0;
  fourth = get_or (drop i s) 3 0;
  fifth = get_or (drop i s) 4 0;
}

unfoldable pub step_row : Step → List ℕ
step_row x =
    x.kind ∷ x.status ∷ x.check ∷ x.sender
    ∷ (identifier_row x.id
    ++ (x.uetr.high ∷ x.uetr.low ∷ x.created
    ∷ (identifier_row x.reference
    ++ (x.debit ∷ x.credit ∷ x.amount
    ∷ x.account ∷ (settings_row x.old ++ (settings_row x.given
    ++ (x.receiver ∷ x.answers ∷ [])))))))

unfoldable pub step_in : List ℕ → Step
step_in s = record {
  kind = get_or s 0 0;
  status = get_or s 1 0;
  check = get_or s 2 0;
  sender = get_or s 3 0;
  id = identifier_from s 4;
  uetr = record { high = get_or s 9 0; low = get_or s 10 0 };
  created = get_or s 11 0;
  reference = identifier_from s 12;
  debit = get_or s 17 0;
  credit = get_or s 18 0;
  amount = get_or s 19 0;
  account = get_or s 20 0;
  old = settings_from s 21;
  given = settings_from s 25;
  receiver = get_or s 29 0;
  answers = get_or s 30 0;
}
