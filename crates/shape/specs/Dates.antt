-- Dates as numbers yyyymmdd, times as numbers yyyymmddhhmmss: the calendar of 2000 to 2099.
use Rattle.std.specs.Prelude.{Bool, not, ◌&&◌, ◌||◌, cond, List, [], ◌∷◌, map, ℕ, ◌+◌, ◌-◌, ◌*◌, ◌/◌, ◌%◌, leb, ltb, eqb, get_or, Option, Some, None}
use Rattle.shape.specs.Patterns.{fits, time_pattern}
use Rattle.shape.specs.Numbers.{decimal}

-- the calendar's first and last year
abbrev pub year_first : ℕ
year_first = 2000

abbrev pub year_last : ℕ
year_last = 2099

abbrev pub year : ℕ → ℕ
year n = n / 10000

abbrev pub month : ℕ → ℕ
month n = n / 100 % 100

abbrev pub day : ℕ → ℕ
day n = n % 100

abbrev pub dated : ℕ → ℕ → ℕ → ℕ
dated y m d = y * 10000 + m * 100 + d

-- every fourth year, but of the full centuries only every fourth
unfoldable pub is_leap : ℕ → Bool
is_leap y = eqb (y % 4) 0 && (not (eqb (y % 100) 0) || eqb (y % 400) 0)

-- the days of a month
unfoldable pub days_in : ℕ → ℕ → ℕ
days_in y m =
    cond (eqb m 2) (cond (is_leap y) 29 28)
    (cond (eqb m 4 || eqb m 6 || eqb m 9 || eqb m 11) 30 31)

-- a real date of 2000 to 2099
unfoldable pub is_date : ℕ → Bool
is_date n =
    leb year_first (year n) && leb (year n) year_last
    && leb 1 (month n) && leb (month n) 12
    && leb 1 (day n) && leb (day n) (days_in (year n) (month n))

-- the day before a date: none before 2000-01-01, and none before what is no date
unfoldable pub day_before : ℕ → Option ℕ
day_before n =
    cond (not (is_date n)) None
    (cond (ltb 1 (day n)) (Some (n - 1))
    (cond (ltb 1 (month n)) (Some (dated (year n) (month n - 1) (days_in (year n) (month n - 1))))
    (cond (ltb year_first (year n)) (Some (dated (year n - 1) 12 31))
    None)))

-- the date of a time
abbrev pub date_of : ℕ → ℕ
date_of n = n / 1000000

-- a real time: a real date, hours to 23, minutes and seconds to 59
unfoldable pub is_time : ℕ → Bool
is_time n = is_date (date_of n) && leb (n / 10000 % 100) 23 && leb (n / 100 % 100) 59 && leb (n % 100) 59

-- where the fourteen digits of YYYY-MM-DDThh:mm:ss stand
abbrev pub time_places : List ℕ
time_places = 0 ∷ 1 ∷ 2 ∷ 3 ∷ 5 ∷ 6 ∷ 8 ∷ 9 ∷ 11 ∷ 12 ∷ 14 ∷ 15 ∷ 17 ∷ 18 ∷ []

unfoldable pub time_number : List ℕ → ℕ
time_number s = decimal (map (λ (i : ℕ). get_or s i 0) time_places)

-- the time that a text is
unfoldable pub time_of : List ℕ → Option ℕ
time_of s = cond (fits time_pattern s && is_time (time_number s)) (Some (time_number s)) None
