-- What the exported chart and panel answer in numbers.
--     mark_code mark                    0 where refused, 1 for a dot, 2 for a disc
--     mark_in_numbers mark               a mark in numbers
--     chart_answer D types given ..     what the exported chart answers
--     panel_given D types given ..      what the panel shows of the figures that are given
--     panel_answer shown n places       what the exported panel answers where so many places are lent for the steps
use Rattle.std.specs.Prelude.{ℕ, List, leb, ℤ}
use Rattle.refusal.specs.Number.{outside_limits}
use Rattle.refusal.specs.Outcome.{number_of, line_of}
use Rattle.channel.specs.Channel.{Types}
use Rattle.chart.specs.Mark.{refused_mark, mark_number, mark_line, mark_point, mark_radius, chart_mark, MarkOutcome, Dot, Disc, Refused}
use Rattle.panel_steps.specs.Panel.{refused_panel, panel_shown, PanelShown}
use Rattle.lent.specs.Clauses.{with_room}
use Rattle.export_figures.specs.Clauses.{answer_given}
use Rattle.export_figures.specs.declared.FiguresGiven.{FiguresGiven}
use Rattle.export_chart.specs.declared.MarkAnswer.{MarkAnswer}
use Rattle.export_chart.specs.declared.PanelAnswer.{PanelAnswer}

abbrev pub mark_code : MarkOutcome → ℕ
mark_code (Dot point) = 1
mark_code (Disc point radius) = 2
mark_code (Refused r) = 0

abbrev pub mark_in_numbers : MarkOutcome → MarkAnswer
mark_in_numbers mark =
    record {
      number = mark_number mark;
      line = mark_line mark;
      mark = mark_code mark;
      horizontal = (mark_point mark).horizontal;
      vertical = (mark_point mark).vertical;
      radius = mark_radius mark;
    }

unfoldable pub chart_answer : ℕ → Types → FiguresGiven → List ℕ → List ℤ → ℕ → ℕ → MarkAnswer
chart_answer D types given codes scaled_centre h v =
    mark_in_numbers (answer_given (λ f. chart_mark D types f h v) (refused_mark outside_limits) given codes scaled_centre)

unfoldable pub panel_given : ℕ → Types → FiguresGiven → List ℕ → List ℤ → PanelShown
panel_given D types = answer_given (panel_shown D types) (refused_panel outside_limits)

-- the steps need n places
abbrev pub panel_answer : PanelShown → ℕ → ℕ → PanelAnswer
panel_answer shown n places =
    record { number = number_of (with_room (leb n places) shown.outcome); line = line_of (with_room (leb n places) shown.outcome) }
