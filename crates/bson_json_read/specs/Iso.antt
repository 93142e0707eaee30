-- Dates by RFC 3339, section 5.6 (date-time), of at most milliseconds: with capitals T and Z, no
-- second 60, and the years 1 to 9999.
use Rattle.std.specs.Prelude.{ℕ, ℤ, pos, neg_ℤ, ◌-ℤ◌, ◌*ℤ◌, ◌+◌, ◌-◌, ◌*◌, List, [], ◌∷◌}
use Rattle.std.specs.Prelude.{length, drop, slice_index, codes, Bool, true, false, ◌==◌, ◌&&◌}
use Rattle.std.specs.Prelude.{nat_le, nat_lt, if◌then◌else◌, Option, Some, None}
use Rattle.std.specs.Prelude.{option_and_then, option_map}
use Rattle.std.specs.Char.{is_ascii_digit}
use Rattle.bson_json.specs.Dates.{days_before_month, days_before_year, days_in_month, is_leap}

-- the bytes begin with a digit for each 0 of the pattern, and else with the same bytes
abbrev pub begins : List ℕ → List ℕ → Bool
begins [] bs = true
begins (p ∷ ps) [] = false
begins (p ∷ ps) (b ∷ bs) = (if p == 48 then is_ascii_digit b else (b == p)) && begins ps bs

-- they begin so, and are no longer than the pattern
abbrev pub like : List ℕ → List ℕ → Bool
like pattern bytes = length bytes == length pattern && begins pattern bytes

-- the numbers of digits from an index on
abbrev pub digit_at : List ℕ → ℕ → ℕ
digit_at text i = slice_index text i - 48

abbrev pub two_at : List ℕ → ℕ → ℕ
two_at text i = digit_at text i * 10 + digit_at text (i + 1)

abbrev pub year_in : List ℕ → ℕ
year_in text = two_at text 0 * 100 + two_at text 2

-- ---- full-date

-- a day by the Gregorian calendar, of year 1 to 9999
abbrev pub is_day : ℕ → ℕ → ℕ → Bool
is_day year month day =
    nat_le 1 year && (nat_le year 9999 && (nat_le 1 month && (nat_le month 12 && (nat_le 1 day
    && nat_le day (days_in_month (is_leap year) month)))))

-- the days from 0001-01-01 to this one
abbrev pub days_to : ℕ → ℕ → ℕ → ℕ
days_to year month day =
    days_before_year year + days_before_month (is_leap year) month + (day - 1)

abbrev pub day_if : ℕ → ℕ → ℕ → Option ℕ
day_if year month day = if is_day year month day then Some (days_to year month day) else None

abbrev pub day_of : List ℕ → Option ℕ
day_of text = day_if (year_in text) (two_at text 5) (two_at text 8)

-- ---- partial-time

-- time-hour and time-minute, as minutes
abbrev pub minutes_if : ℕ → ℕ → Option ℕ
minutes_if hour minute =
    if nat_lt hour 24 && nat_lt minute 60 then Some (hour * 60 + minute) else None

abbrev pub minutes_at : List ℕ → ℕ → Option ℕ
minutes_at text i = minutes_if (two_at text i) (two_at text (i + 3))

-- with time-second, as seconds
abbrev pub seconds_if : ℕ → ℕ → Option ℕ
seconds_if second minutes = if nat_lt second 60 then Some (minutes * 60 + second) else None

abbrev pub time_of : List ℕ → Option ℕ
time_of text = option_and_then (seconds_if (two_at text 17)) (minutes_at text 11)

-- time-secfrac, which may be left out: its milliseconds, and how many bytes it has. No time-offset
-- begins with a point or a digit, so a point alone and a fourth digit are refused.
abbrev pub fraction_of : List ℕ → ℕ × ℕ
fraction_of rest =
    if begins (codes ".000") rest then (digit_at rest 1 * 100 + two_at rest 2, 4)
    else if begins (codes ".00") rest then (two_at rest 1 * 10, 3)
    else if begins (codes ".0") rest then (digit_at rest 1 * 100, 2)
    else (0, 0)

-- ---- time-offset

-- the minutes that local time is ahead of UTC: none by Z, and else those of time-numoffset
abbrev pub offset_of : List ℕ → Option ℤ
offset_of zone =
    if like (codes "Z") zone then Some (pos 0)
    else if like (codes "+00:00") zone then option_map pos (minutes_at zone 1)
    else if like (codes "-00:00") zone then option_map (λ n. neg_ℤ (pos n)) (minutes_at zone 1)
    else None

-- ---- date-time

-- the seconds from 0001-01-01 to a full-date and a partial-time without its fraction
abbrev pub on_day : List ℕ → ℕ → Option ℕ
on_day text days = option_map (λ seconds. days * 86400 + seconds) (time_of text)

abbrev pub seconds_of : List ℕ → Option ℕ
seconds_of text = option_and_then (on_day text) (day_of text)

-- the milliseconds since 1970, which is 719162 days after 0001-01-01, of seconds and milliseconds
-- of local time, off which the offset is taken
abbrev pub since_1970 : ℕ → ℕ → ℤ → ℤ
since_1970 seconds ms offset =
    (pos (seconds * 1000 + ms) -ℤ pos (719162 * 86400000)) -ℤ (offset *ℤ pos 60000)

-- the same by the text of the offset, and by all that stands behind the seconds
abbrev pub with_offset : ℕ → ℕ → List ℕ → Option ℤ
with_offset seconds ms zone = option_map (since_1970 seconds ms) (offset_of zone)

abbrev pub with_rest : List ℕ → ℕ → Option ℤ
with_rest rest seconds =
    with_offset seconds (fraction_of rest).0 (drop (fraction_of rest).1 rest)

-- the milliseconds since 1970 of a date-time
abbrev pub iso_of : List ℕ → Option ℤ
iso_of text =
    if begins (codes "0000-00-00T00:00:00") text
    then option_and_then (with_rest (drop 19 text)) (seconds_of text)
    else None
