-- Days by the Gregorian calendar, and dates as ISO-8601 has them.
use Rattle.std.specs.Prelude.{◌≡◌, ℕ, zero, suc, ◌+◌, ◌-◌, ◌*◌, ◌/◌, ◌%◌, ◌≤◌, ◌==◌, ◌&&◌, ◌||◌}
use Rattle.std.specs.Prelude.{if◌then◌else◌, not, Bool, List, [], ◌∷◌, ◌++◌, codes, decimal}

-- a year that 4 divides, but not 100, unless 400 does
abbrev pub is_leap : ℕ → Bool
is_leap year = (year % 4 == 0) && (not (year % 100 == 0) || (year % 400 == 0))

-- the days of January are those of month 1
abbrev pub days_in_month : Bool → ℕ → ℕ
days_in_month leap month =
    if month == 2 then if leap then 29 else 28
    else if (month == 4) || ((month == 6) || ((month == 9) || (month == 11))) then 30
    else 31

-- the days of the year before this month of it
abbrev pub days_before_month : Bool → ℕ → ℕ
days_before_month leap zero = 0
days_before_month leap (suc zero) = 0
days_before_month leap (suc (suc m)) =
    days_before_month leap (suc m) + days_in_month leap (suc m)

abbrev pub days_in_year : ℕ → ℕ
days_in_year year = if is_leap year then 366 else 365

-- the days from the beginning of year 1 to that of this year
abbrev pub days_before_year : ℕ → ℕ
days_before_year year =
    365 * (year - 1) + (year - 1) / 4 - (year - 1) / 100 + (year - 1) / 400

-- the day that is this number of days after 1970-01-01, which is 719162 days after 0001-01-01
pub record IsDay (days year month day : ℕ) : Type 0 where
  pub in_year : (1 ≤ month) × (month ≤ 12)
  pub in_month : (1 ≤ day) × (day ≤ days_in_month (is_leap year) month)
  pub counted : days + 719162
      ≡ days_before_year year + days_before_month (is_leap year) month + (day - 1)

-- two digits, and three
abbrev pub two : ℕ → List ℕ
two n = (48 + n / 10) ∷ (48 + n % 10) ∷ []

abbrev pub three : ℕ → List ℕ
three n = (48 + n / 100) ∷ two (n % 100)

-- milliseconds, which are written where there are some
abbrev pub fraction_text : ℕ → List ℕ
fraction_text ms = if ms == 0 then [] else codes "." ++ three ms

-- the time of day, by its milliseconds
abbrev pub time_text : ℕ → List ℕ
time_text ms =
    two (ms / 3600000) ++ (codes ":" ++ (two (ms / 60000 % 60)
    ++ (codes ":" ++ (two (ms / 1000 % 60) ++ fraction_text (ms % 1000)))))

abbrev pub day_text : ℕ → ℕ → ℕ → List ℕ
day_text year month day = decimal year ++ (codes "-" ++ (two month ++ (codes "-" ++ two day)))

-- the text is the date of these milliseconds since 1970, in UTC
abbrev pub IsIsoText : ℕ → List ℕ → Type 0
IsIsoText ms text =
    (year : ℕ) × (month : ℕ) × (day : ℕ) × IsDay (ms / 86400000) year month day
    × (text ≡ day_text year month day ++ (codes "T" ++ (time_text (ms % 86400000) ++ codes "Z")))
