-- The marked cases A to M (docs/RULES.md, section 14): one table, and one statement about the definitions.
use Rattle.std.specs.Prelude.{List, [], ◌∷◌, ℕ, ℤ, pos, set, drop}
use Rattle.std.proofs.Math.IntN.{sub_ℕ}
use Rattle.kinds.specs.Tasks.{Set, view}
use Rattle.reader.specs.Files.{set_read}
use Rattle.cases.specs.Questions.{Row, Answered, is, refused_by, says, times, rows, at, gets, reply, number_reply}
use Rattle.cases.specs.Questions.{task_numbers, heading_numbers, pair_numbers, set_of, silence, report_after}
use Rattle.cases.specs.Questions as ask

-- ---- A
unfoldable pub file_a : List ℕ
file_a =
    0x01 ∷ 0x03 ∷ 0x01
    ∷ 0x08 ∷ 0x03 ∷ 0x00 ∷ 0x08
    ∷ 0x0C ∷ 0x05 ∷ 0x00 ∷ 0x0C
    ∷ 0x0C ∷ 0x02 ∷ 0x00 ∷ 0x0C
    ∷ 0x01 ∷ 0x01 ∷ 0x02 ∷ 0x01 ∷ 0x00 ∷ 0x00
    ∷ 1 ∷ 1 ∷ 1 ∷ 2 ∷ 2 ∷ 2 ∷ 2 ∷ 2 ∷ 3 ∷ 3 ∷ 1 ∷ 1 ∷ 1 ∷ 2 ∷ 2 ∷ 2 ∷ 2 ∷ 2 ∷ 3 ∷ 3 ∷ 1 ∷ 1 ∷ 1 ∷ 0 ∷ []

-- the set that the reader hands out, and the slots behind its place
unfoldable pub set_a : Set
set_a = view (set_read file_a)

unfoldable pub slots_a : List ℕ
slots_a = drop 21 file_a

-- ---- the other sets
unfoldable pub set_c : Set
set_c = set_of 2 ((5, 5, 1, 5) ∷ (5, 2, 0, 5) ∷ (5, 2, 0, 5) ∷ []) []

unfoldable pub slots_c : List ℕ
slots_c = 1 ∷ 2 ∷ 1 ∷ 2 ∷ 1 ∷ 3 ∷ 1 ∷ 3 ∷ 1 ∷ 0 ∷ []

unfoldable pub set_d : Set
set_d = set_of 1 ((4, 2, 3, 4) ∷ (4, 1, 0, 4) ∷ []) ((0, 1, 0, 0) ∷ [])

unfoldable pub slots_d : List ℕ
slots_d = 1 ∷ 1 ∷ 2 ∷ 0 ∷ []

unfoldable pub set_g : Set
set_g = set_of 2 ((2, 1, 0, 2) ∷ []) []

unfoldable pub set_h : Set
set_h = set_of 1 ((4, 1, 0, 2) ∷ []) []

-- A with task 2's C = 3
unfoldable pub set_i : Set
set_i = view (set_read (set file_a 12 3))

unfoldable pub set_j : Set
set_j = set_of 3 ((2, 2, 0, 2) ∷ (2, 2, 0, 2) ∷ (2, 2, 0, 2) ∷ []) ((0, 1, 0, 0) ∷ (1, 2, 0, 0) ∷ [])

unfoldable pub set_k : Set
set_k = set_of 1 ((4, 1, 0, 4) ∷ (4, 1, 0, 4) ∷ []) ((0, 1, 0, 0) ∷ (1, 0, 0, 0) ∷ [])

unfoldable pub minus : ℕ → ℤ
minus n = sub_ℕ 0 n

-- ---- the table: each question, and the answer that is printed for it
unfoldable pub cases : List Row
cases =
    -- A: the whole is 45 bytes, read and accepted.
    (ask.length_of file_a, is 45)
    ∷ (ask.reading file_a, says (0 ∷ 21 ∷ []))
    ∷ (ask.judging set_a slots_a, says (0 ∷ []))
    -- B
    ∷ (ask.deadlines set_a, times (pos 8 ∷ pos 16 ∷ pos 24 ∷ pos 10 ∷ pos 22 ∷ pos 12 ∷ pos 24 ∷ []))
    -- C: accepted, and the first six steps.
    ∷ (ask.judging set_c slots_c, says (0 ∷ []))
    ∷ (ask.playing set_c slots_c silence 0 6, rows ((0 ∷ 2 ∷ []) ∷ (1 ∷ 2 ∷ []) ∷ (1 ∷ 3 ∷ []) ∷ (1 ∷ 3 ∷ []) ∷ (1 ∷ 0 ∷ []) ∷ (1 ∷ 2 ∷ []) ∷ []))
    -- D: 23 with 0, 0, 0. Job 0 of task 0 runs at 4 and 5.
    ∷ (ask.judging set_d slots_d, says (23 ∷ 0 ∷ 0 ∷ 0 ∷ []))
    ∷ (ask.running_at set_d slots_d 0 0, at (4 ∷ 5 ∷ []))
    ∷ (ask.getting set_d slots_d 0 0, gets 2 4 5)
    -- E: 22, task 0 job 2, 4 ticks, from 20 to 23. F: 22, task 0 job 1, 2 ticks, from 11 to 12.
    ∷ (ask.judging set_a (set slots_a 23 1), says (22 ∷ 0 ∷ 2 ∷ 4 ∷ 20 ∷ 23 ∷ []))
    ∷ (ask.judging set_a (set slots_a 10 0), says (22 ∷ 0 ∷ 1 ∷ 2 ∷ 11 ∷ 12 ∷ []))
    -- G: 20 at tick 0, processors 0 and 1.
    ∷ (ask.judging set_g (1 ∷ 1 ∷ 0 ∷ 0 ∷ []), says (20 ∷ 0 ∷ 0 ∷ 1 ∷ []))
    -- H: 21 at tick 2, processor 0; then accepted.
    ∷ (ask.judging set_h (0 ∷ 0 ∷ 1 ∷ 0 ∷ []), says (21 ∷ 2 ∷ 0 ∷ []))
    ∷ (ask.judging set_h (0 ∷ 1 ∷ 0 ∷ 0 ∷ []), says (0 ∷ []))
    -- I: 14 with 25 and 24; A itself has no finding.
    ∷ (ask.screening set_i, says (14 ∷ 25 ∷ 24 ∷ []))
    ∷ (ask.screening set_a, says (0 ∷ []))
    -- J: deadlines −2, 0, 2; 15 at task 0 job 0.
    ∷ (ask.deadlines set_j, times (minus 2 ∷ pos 0 ∷ pos 2 ∷ []))
    ∷ (ask.screening set_j, says (15 ∷ 0 ∷ 0 ∷ []))
    -- K: 13 at task 0 job 0.
    ∷ (ask.screening set_k, says (13 ∷ 0 ∷ 0 ∷ []))
    -- L
    ∷ (ask.number (0x7F ∷ []), is 127)
    ∷ (ask.number (0x80 ∷ 0x01 ∷ []), is 128)
    ∷ (ask.number (0xFF ∷ 0xFF ∷ 0x7F ∷ []), is 2097151)
    ∷ (ask.number (0x80 ∷ 0x00 ∷ []), refused_by 2)
    ∷ (ask.number (0xFF ∷ 0xFF ∷ 0xFF ∷ []), refused_by 2)
    ∷ (ask.reading [], says (1 ∷ 0 ∷ []))
    -- M: task 1 reports after tick 3: ticks 4 to 7 show 0, ticks 8 and 9 show 3, ticks 13 to 17 show 2.
    ∷ (ask.playing set_a slots_a (report_after 1 3) 4 4, rows ((0 ∷ []) ∷ (0 ∷ []) ∷ (0 ∷ []) ∷ (0 ∷ []) ∷ []))
    ∷ (ask.playing set_a slots_a (report_after 1 3) 8 2, rows ((3 ∷ []) ∷ (3 ∷ []) ∷ []))
    ∷ (ask.playing set_a slots_a (report_after 1 3) 13 5, rows ((2 ∷ []) ∷ (2 ∷ []) ∷ (2 ∷ []) ∷ (2 ∷ []) ∷ (2 ∷ []) ∷ []))
    ∷ []
