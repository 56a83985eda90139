-- The second table, our own: every refusal number with its evidence and every reason for it, limits from both sides, chains of links, eight processors,
-- task 63 and H = 6,000. Its parts stand in files of their own; here is the one statement.
use Rattle.std.specs.Prelude.{◌≡◌, refl, List, [], ◌∷◌, ◌++◌, map}
use Rattle.std.proofs.Common.{sym, ap, ap₂, ◌∙◌}
use Rattle.cases.specs.Questions.{Row, Answered, Reply, reply}
use Rattle.cases.specs.ReaderCases.{reader_cases, reader_cases_lem}
use Rattle.cases.specs.SetCases.{set_cases, set_cases_lem}
use Rattle.cases.specs.WriterCases.{writer_cases, writer_cases_lem}
use Rattle.cases.specs.JudgeCases.{judge_cases, judge_cases_lem}
use Rattle.cases.specs.DispatcherCases.{dispatcher_cases, dispatcher_cases_lem}

abbrev pub second_cases : List Row
second_cases = reader_cases ++ (set_cases ++ (writer_cases ++ (judge_cases ++ dispatcher_cases)))

map_both : (f : Row → Reply) (xs ys : List Row) → map f (xs ++ ys) ≡ map f xs ++ map f ys
map_both f [] ys = refl
map_both f (x ∷ xs) ys = ap (λ (rs : List Reply). f x ∷ rs) (map_both f xs ys)

-- two tables that are answered are one
answered_both : (xs ys : List Row) → Answered xs → Answered ys → Answered (xs ++ ys)
answered_both xs ys p q =
    map_both (λ (r : Row). reply r.0) xs ys ∙ ap₂ ◌++◌ p q ∙ sym (map_both (λ (r : Row). r.1) xs ys)

-- ==== The definitions answer every case of the second table as it is printed there.
second_cases_lem : Answered second_cases
second_cases_lem =
    answered_both reader_cases _ reader_cases_lem
    (answered_both set_cases _ set_cases_lem
    (answered_both writer_cases _ writer_cases_lem
    (answered_both judge_cases dispatcher_cases judge_cases_lem dispatcher_cases_lem)))
