use Rattle.std.proofs.Common.{◌++◌, ◌/◌, ◌%◌, List, ℕ, codes, refl, sym, ap, subst}
use Rattle.text_writer.proofs.Lemmas.{word_first}
use Rattle.bson_json.specs.Dates.{IsDay, day_text, time_text}
use Rattle.bson_json.proofs.Choices.{exact_one}
use Rattle.bson_json.proofs.Walking.{regrouped}
use Rattle.bson_json.proofs.date.write_iso.Goals as goal

pub returns : goal.returns
returns g c =
    let date = c.date_of-date.result in
    let day : List ℕ = day_text date.year date.month date.day in
    let time : List ℕ = time_text (c.args.ms % 86400000) in
    let is_day : IsDay (c.args.ms / 86400000) date.year date.month date.day =
    subst (λ n. IsDay n date.year date.month date.day) c.days_of.ensures c.date_of-date.ensures.date in
    let timed = rw c.time_of.ensures at c.in_ok-write_time.ensures in
    exact_one c.write_all-3.result _ _ (codes "{\"$date\":\"" ++ (day ++ (codes "T" ++ (time ++ codes "Z\"}")))) _ (
      day ++ (codes "T" ++ (time ++ codes "Z")),
      (date.year, date.month, date.day, is_day, refl),
      ap (λ (x : List ℕ). codes "{\"$date\":\"" ++ x) (sym (regrouped day (codes "T") time (codes "Z") (codes "\"}"))),
    )
    (word_first _ _ _ _ _ _ c.in_ok-write_all.ensures.bytes
    (word_first _ _ _ _ _ _ c.in_ok-write_day.ensures
    (word_first _ _ _ _ _ _ c.in_ok-write_all-2.ensures.bytes
    (word_first _ _ _ _ _ _ timed c.write_all-3.ensures.bytes))))
