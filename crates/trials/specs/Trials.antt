-- Document 01, "Trial figures": the cases marked with a star, and the range of TOC; document 02's figures of values below detection, and
-- two records that were drawn where these counted as 0. They are one table, and one law computes every case from the definitions: texts
-- from their bytes, types from their table, drawings from their start.
--     Trial             the figures that the definitions give, and those that the documents state or that follow from them
--     trials            the table, in the documents' order
--     trials_agree      every case gives the documents' figures
use Rattle.std.specs.Prelude.{ℕ, ◌≡◌, refl, Bool, cond, List, [], ◌∷◌, ◌++◌, map, ℤ, pos, neg_ℤ, length, take}
use Prim.Native.String.{String}
use Rattle.std.proofs.Common.{ap₂}
use Rattle.integers.specs.Sum.{sumℤ, sumℕ, square}
use Rattle.lists.specs.Padded.{padded}
use Rattle.refusal.specs.Outcome.{number_of}
use Rattle.geometry.specs.Figures.{squared_length, squared_distance, scaled_centre, scaled_squared_distance, largest, scaled_squared_radius, weighted_squared_length, scaled_lower_bound}
use Rattle.geometry.specs.Select.{farthest, replaces, nearest}
use Rattle.geometry.specs.Move.{scaled_squared_distance_of, far_row, near_row, difference, separation, settled, transfer, move_weight, moved, weight_of}
use Rattle.geometry.specs.Table.{coordinate, places_within, rows_within}
use Rattle.limits.specs.Limits.{total, row_limit, channel_limit}
use Rattle.geometry.specs.Places.{weights_total, tabulate, centre_list}
use Rattle.ball.specs.Ball.{ball_of, empty_ball}
use Rattle.checking.specs.Check.{checking}
use Rattle.drawing.specs.Draw.{run, start, run_from, drawing, DrawingOutcome}
use Rattle.text.specs.Ascii.{ascii}
use Rattle.text.specs.Parts.{same, extend, cut, join}
use Rattle.text.specs.Lines.{print_lines}
use Rattle.number.specs.Number.{digits_from, magnitude_of, plain, decimal, print_magnitude, print}
use Rattle.label.specs.Label.{label_bytes, is_label}
use Rattle.label.specs.RowLabel.{is_row_label, label_used}
use Rattle.printing.specs.Clauses.{numbers_after}
use Rattle.channel.specs.Channel.{code_of, type_of, known, codes_known, code_in, type_in, known_in, house_types, channel_types}
use Rattle.value.specs.Value.{value_of}
use Rattle.value.specs.Values.{values_of, values_in_range}
use Rattle.heading.specs.Heading.{stated_count, codes_of_tags, heading_fields, heading_of, print_heading}
use Rattle.reference_row.specs.Row.{row_fields, row_of}
use Rattle.reference_rows.specs.ReferenceText.{of_heading, with_row, codes_of, channel_count, rows_of, row_count, row_numbers, table_of, lines_before}
use Rattle.reference_rows.specs.Rows.{Content, faulty, sound, rows_from}
use Rattle.reference.specs.Reference.{content_of, content}
use Rattle.envelope.specs.Figures.{figures_within, codes_within, figures_known, figures_of}
use Rattle.reading_line.specs.Reading.{tag_fields, value_fields, reading_fields, reading_of, tags_agree}
use Rattle.reading.specs.Content.{reading_content}
use Rattle.reading.specs.Verdict.{verdict_number, verdict_line}
use Rattle.measured_reading.specs.Measured.{MeasuredReading, measured}
use Rattle.agreement.specs.Agreement.{all_zero, same_places, ball_agrees, agrees, with_centre}
use Rattle.record_lines.specs.Lines.{record_number, numbers_of, numbers_line, centre_line, result_fields, result_line, weight_line, print_centre, print_result, print_weight}
use Rattle.record_form.specs.Record.{weights_from, form_of, form, print_record}
use Rattle.record_form.specs.Weights.{placed_in, weights_of, listed}
use Rattle.record_print.specs.Printed.{record_text}
use Rattle.record_read.specs.Clauses.{record_read}
use Rattle.panel_steps.specs.Panel.{panel_shown}
use Rattle.program_draw.specs.Output.{draw_budget, draw_output}
use Rattle.program_record.specs.Against.{record_against}
use Rattle.program_verify.specs.Output.{verify_output}

pub record Trial : Type 0 where
  pub computed : List ℤ
  pub stated : List ℤ

numbers : List ℕ → List ℤ
numbers = map pos

flag : Bool → ℕ
flag b = cond b 1 0

-- the drawing of m rows of n channels
draw : ℕ → List ℤ → ℕ → ℕ → DrawingOutcome
draw n rows m budget = drawing total row_limit rows m n budget

-- the drawing of the rows of a reference text, of no row where it is refused
draw_found : Content → ℕ → DrawingOutcome
draw_found (faulty number line) budget = draw 0 [] 0 budget
draw_found (sound found) budget = draw (channel_count found) (table_of found) (row_count found) budget

draw_text : List ℕ → ℕ → DrawingOutcome
draw_text text = draw_found (content row_limit channel_types text)

-- the table of a reference text, or the refusal's number and line
told : Content → List ℤ
told (faulty number line) = numbers (number ∷ line ∷ [])
told (sound found) = table_of found

read_text : List ℕ → List ℤ
read_text text = told (content row_limit channel_types text)

-- moves, M, L, Settled
outline : DrawingOutcome → List ℤ
outline r =
    numbers (r.moves ∷ r.ball.scaled_squared_radius ∷ r.ball.scaled_lower_bound ∷ flag r.ball.settled ∷ [])

-- the outline, X and the weights of the first m rows
whole : ℕ → ℕ → DrawingOutcome → List ℤ
whole m n r = outline r ++ take n r.ball.scaled_centre ++ numbers (take m r.weights)

-- g, and t, of one channel's rows under some weights
difference_under : List ℤ → List ℕ → ℕ
difference_under rows ws = difference total (length rows) 1 (coordinate rows 1) (weight_of ws)

transfer_under : List ℤ → List ℕ → ℕ
transfer_under rows ws = transfer total (length rows) 1 (coordinate rows 1) (weight_of ws)

-- the refusal's number, 0 where there is none, and what the panel shows of one channel, of type TMP, with this X
shown : ℤ → List ℤ
shown x =
    let panel = panel_shown total channel_types (figures_of 1 (code_of channel_types (ascii "TMP") ∷ []) (with_centre empty_ball (x ∷ [])) 0) in
    pos (number_of panel.outcome) ∷ take 1 panel.steps

-- the refusal's number and line, 0 and 0 where there is none, and the values of a reading of TOC, CND and TMP as they are measured
measured_told : MeasuredReading → List ℤ
measured_told r = numbers (verdict_number r.answer.verdict ∷ verdict_line r.answer.verdict ∷ []) ++ r.values

read_reading : List ℕ → List ℤ
read_reading text =
    let codes = map (code_of channel_types) (ascii "TOC" ∷ ascii "CND" ∷ ascii "TMP" ∷ []) in
    measured_told (measured total channel_types (figures_of 3 (padded channel_limit codes) empty_ball 0) text)

-- the reference text that document 01 prints, with this TOC of its second row; that text, and its record
with_second : String → List ℕ
with_second toc =
    ascii "REF,2,TOC,CND\n"
    ++ ascii "A,0,0\n"
    ++ ascii "B," ++ ascii toc ++ ascii ",0\n"
    ++ ascii "C,0,8\n"

example_reference : List ℕ
example_reference = with_second "6"

example_record : List ℕ
example_record =
    ascii "ENV,2,TOC,CND\n"
    ++ ascii "C,196608,262144\n"
    ++ ascii "R,107374182400,107374182400,2,S\n"
    ++ ascii "W,2,32768\n"
    ++ ascii "W,3,32768\n"

-- these rows and a fourth, inside the ball
with_fourth : String → String → List ℕ
with_fourth toc cnd = example_reference ++ ascii "D," ++ ascii toc ++ ascii "," ++ ascii cnd ++ ascii "\n"

-- the record where the second row has a TOC of 0
record_with_zero : List ℕ
record_with_zero =
    ascii "ENV,2,TOC,CND\n"
    ++ ascii "C,0,262144\n"
    ++ ascii "R,68719476736,68719476736,1,S\n"
    ++ ascii "W,1,32768\n"
    ++ ascii "W,3,32768\n"

print_drawn : List ℕ → List ℕ
print_drawn = draw_output total row_limit channel_types

print_verified : List ℕ → List ℕ → List ℕ
print_verified = verify_output total row_limit channel_types

pub trials : List Trial
trials =
    -- Rows 0, 10: one move, t = 32,768, M = L = 107,374,182,400
    record {
      computed =
          numbers (transfer_under (numbers (0 ∷ 10 ∷ [])) (start row_limit total) ∷ []) ++ outline (draw 1 (numbers (0 ∷ 10 ∷ [])) 2 draw_budget);
      stated = numbers (32768 ∷ 1 ∷ 107374182400 ∷ 107374182400 ∷ 1 ∷ []);
    }
    -- Rows 0, 1: M = 1,073,741,824, gap 0
    ∷ record {
      computed = outline (draw 1 (numbers (0 ∷ 1 ∷ [])) 2 draw_budget);
      stated = numbers (1 ∷ 1073741824 ∷ 1073741824 ∷ 1 ∷ []);
    }
    -- One row 7, budget 0: Settled, M = 0
    ∷ record { computed = outline (draw 1 (numbers (7 ∷ [])) 1 0); stated = numbers (0 ∷ 0 ∷ 0 ∷ 1 ∷ []) }
    -- Rows 5, 5: Settled, no move
    ∷ record {
      computed = outline (draw 1 (numbers (5 ∷ 5 ∷ [])) 2 draw_budget);
      stated = numbers (0 ∷ 0 ∷ 0 ∷ 1 ∷ []);
    }
    -- The record: 2 moves
    ∷ record {
      computed = whole 3 2 (draw_text example_reference draw_budget);
      stated =
          numbers (2 ∷ 107374182400 ∷ 107374182400 ∷ 1 ∷ 196608 ∷ 262144 ∷ 0 ∷ 32768 ∷ 32768 ∷ []);
    }
    -- what the drawing program prints
    ∷ record { computed = numbers (print_drawn example_reference); stated = numbers example_record }
    -- The same with budget 1: Budget, M = 223,338,299,392, L = 68,719,476,736
    ∷ record {
      computed = outline (draw_text example_reference 1);
      stated = numbers (1 ∷ 223338299392 ∷ 68719476736 ∷ 0 ∷ []);
    }
    -- Rows 0, 10, weights 32,767 and 32,769: g = 200, t = 1
    ∷ record {
      computed = numbers (difference_under (numbers (0 ∷ 10 ∷ [])) (32767 ∷ 32769 ∷ []) ∷ transfer_under (numbers (0 ∷ 10 ∷ [])) (32767 ∷ 32769 ∷ []) ∷ []);
      stated = numbers (200 ∷ 1 ∷ []);
    }
    -- Rows 0, 1, 2, weights 32,768, 1, 32,767: g = 65,538, t held to 1
    ∷ record {
      computed = numbers (difference_under (numbers (0 ∷ 1 ∷ 2 ∷ [])) (32768 ∷ 1 ∷ 32767 ∷ []) ∷ transfer_under (numbers (0 ∷ 1 ∷ 2 ∷ [])) (32768 ∷ 1 ∷ 32767 ∷ []) ∷ []);
      stated = numbers (65538 ∷ 1 ∷ []);
    }
    -- Panel: X = -32,768 shows -1; -32,767 shows 0; 32,768 shows 1
    ∷ record {
      computed = shown (neg_ℤ (pos 32768)) ++ shown (neg_ℤ (pos 32767)) ++ shown (pos 32768);
      stated = pos 0 ∷ neg_ℤ (pos 1) ∷ pos 0 ∷ pos 0 ∷ pos 0 ∷ pos 1 ∷ [];
    }
    -- TOC 2000 is read, 2001 gives 4
    ∷ record {
      computed = read_text (ascii "REF,1,TOC\nA,2000\n") ++ read_text (ascii "REF,1,TOC\nA,2001\n");
      stated = numbers (2000 ∷ 4 ∷ 2 ∷ []);
    }
    -- Below detection: <1, <50 and <51 are read as 0, 25 and 25, in a reference text and in a reading
    ∷ record { computed = read_text (ascii "REF,1,TOC\nA,<1\nB,<50\nC,<51\n"); stated = numbers (0 ∷ 25 ∷ 25 ∷ []) }
    ∷ record { computed = read_reading (ascii "A,TOC,<1,CND,<50,TMP,<51\n"); stated = numbers (0 ∷ 0 ∷ 0 ∷ 25 ∷ 25 ∷ []) }
    -- A record that was drawn where below detection counted as 0, kept: it agrees, and is the one that is drawn now
    ∷ record { computed = numbers (print_drawn (with_fourth "0" "0")); stated = numbers example_record }
    ∷ record { computed = numbers (print_verified (with_fourth "<4" "<6") example_record); stated = numbers (ascii "OK\n") }
    ∷ record { computed = numbers (print_drawn (with_fourth "<4" "<6")); stated = numbers example_record }
    -- One that meets 12: another is drawn now
    ∷ record { computed = numbers (print_drawn (with_second "0")); stated = numbers record_with_zero }
    ∷ record { computed = numbers (print_verified (with_second "<12") record_with_zero); stated = numbers (ascii "NO,12,0\n") }
    ∷ record { computed = numbers (print_drawn (with_second "<12")); stated = numbers example_record }
    ∷ []

-- each case by its own `refl`: one for the whole table computes too much
infixr 5 ◌and◌
◌and◌ : {a b : List ℤ} {l m : List (List ℤ)} → a ≡ b → l ≡ m → (a ∷ l) ≡ (b ∷ m)
◌and◌ = ap₂ ◌∷◌

pub trials_agree : map (λ (t : Trial). t.computed) trials ≡ map (λ (t : Trial). t.stated) trials
unfolding trials numbers flag draw outline whole difference_under transfer_under shown with_second example_reference example_record with_fourth record_with_zero print_drawn print_verified draw_found draw_text told read_text measured_told read_reading same extend cut join print_lines decimal print_magnitude print numbers_after digits_from magnitude_of plain label_bytes is_label is_row_label label_used code_of type_of known code_in type_in known_in house_types value_of values_of values_in_range stated_count codes_of_tags heading_fields heading_of row_fields row_of of_heading with_row codes_of rows_of row_numbers table_of lines_before rows_from content_of content draw_output print_heading print_centre print_result print_weight print_record listed record_text padded sumℤ sumℕ square squared_length squared_distance scaled_centre scaled_squared_distance largest scaled_squared_radius weighted_squared_length scaled_lower_bound farthest replaces nearest scaled_squared_distance_of far_row near_row difference separation settled transfer move_weight moved coordinate places_within rows_within weights_total tabulate centre_list ball_of run start run_from drawing codes_known figures_within codes_within figures_known tag_fields value_fields reading_fields reading_of tags_agree reading_content measured record_number numbers_of numbers_line centre_line result_fields result_line weight_line weights_from form_of form placed_in weights_of record_read record_against verify_output all_zero same_places ball_agrees agrees checking panel_shown
trials_agree = refl and refl and refl and refl and refl and refl and refl and refl and refl and refl and refl and refl and refl and refl and refl and refl and refl and refl and refl and refl
