-- The rows of an accepted reference text are Quiet, for any total D above 0, row limit and sound table of types. Of the table of the
-- text, whatever follows it, and of any codes whose first places are the text's:
--     reference_drawn                          it is drawn, with every budget up to the limit
--     reference_drawn_not_8                    2.14: no text is refused by 8 against the drawing of the table
--     reference_checked_not_8                  nor against an accepted check of any weights
--     reference_row_quiet                      where demand 3 holds of the figures, a reading with a row's label and values is Quiet
--     reference_drawn_quiet                    so it is against the drawing of the table
--     reference_checked_quiet                  and against an accepted check of any weights
use Rattle.std.specs.Prelude.{ℕ, ◌+◌, ◌≤◌, ◌<◌, ◌≡◌, true, List, ◌++◌, ℤ, pos, length, take, drop}
use Rattle.std.proofs.Common.{sym, ◌∙◌, ap, arith, length-append, take-append-drop}
use Rattle.std.proofs.Math.ListN.{get_or-map}
use Rattle.refusal.specs.Number.{outside_limits}
use Rattle.limits.specs.Limits.{budget_limit}
use Rattle.geometry.specs.Table.{coordinate}
use Rattle.drawing.specs.Draw.{drawing}
use Rattle.checking.specs.Check.{checking}
use Rattle.ball.specs.Clauses.{Tight}
use Rattle.drawing.specs.Demand.{drawing_accepts, drawing_tight}
use Rattle.checking.specs.Demand.{checking_tight}
use Rattle.ball.specs.declared.Ball.{Ball}
use Rattle.label.specs.Label.{is_label}
use Rattle.label.specs.RowLabelLaws.{row_label}
use Rattle.channel.specs.Channel.{Types, codes_known}
use Rattle.channel.specs.ChannelLaws.{SoundTypes}
use Rattle.channel.specs.CodesLaws.{each_codes}
use Rattle.value.specs.Value.{number, reads}
use Rattle.value.specs.Values.{values_in_range}
use Rattle.value.specs.ValuesLaws.{range_in}
use Rattle.reference_rows.specs.ReferenceText.{ReferenceText, codes_of, channel_count, row_count, row_at, label_at, table_of}
use Rattle.reference_rows.specs.ReferenceTextLaws.{label-at}
use Rattle.reference_rows.specs.Rows.{sound}
use Rattle.reference.specs.Reference.{content}
use Rattle.reference.specs.Printing.{Within}
use Rattle.reference.specs.ReferenceLaws.{accepted-within}
use Rattle.reference_table.specs.AcceptedTable.{accepted-table, accepted-row}
use Rattle.envelope.specs.Figures.{figures_known, figures_of, drawn_figures}
use Rattle.envelope.specs.FigureLaws.{drawn-within, checked-within}
use Rattle.reading_line.specs.Reading.{print_reading, own_reading}
use Rattle.reading.specs.Content.{point_of}
use Rattle.reading.specs.Verdict.{verdict_number, judged, Quiet}
use Rattle.reading.specs.QuietLaws.{drawn_not_8, checked_not_8, tight_row_quiet}
use Rattle.refusal.specs.Outcome.{Accepted}

module _ (D : ℕ) (positive : 0 < D) (limit : ℕ) (types : Types) (types_sound : SoundTypes types)
    (reference : List ℕ) (found : ReferenceText) (is : content limit types reference ≡ sound found) (more : List ℤ)
    (held : List ℕ) (taken : take (channel_count found) held ≡ codes_of found) where
  abbrev m : ℕ
  m = row_count found

  abbrev n : ℕ
  n = channel_count found

  -- the text's table, whatever follows it
  abbrev table : List ℤ
  table = table_of found ++ more

  -- the reading with the label and the values of row i
  abbrev row_text : ℕ → List ℕ
  row_text i = print_reading (own_reading types (codes_of found) (label_at found i) (row_at found i).values)

  limits : Within limit types found
  limits = accepted-within limit types reference found is

  all_typed : n ≤ length held
  all_typed =
      let whole : length (take n held) + length (drop n held) ≡ length held =
      sym (length-append (take n held) (drop n held)) ∙ ap length (take-append-drop n held) in
      omega (arith, ap length taken)

  all_known : codes_known types (take n held) ≡ true
  all_known = ap (codes_known types) taken ∙ each_codes types (codes_of found) limits.heading.each_known

  row-at : (i j : ℕ) → i < m → j < n → point_of (row_at found i).values j ≡ coordinate table n i j
  row-at i j l k =
      get_or-map reads (row_at found i).values j (number (pos 0)) ∙ sym (accepted-row limit types reference found is more i j l k)

  pub reference_drawn : (b : ℕ) → b ≤ budget_limit → (drawing D limit table m n b).outcome ≡ Accepted
  reference_drawn b = drawing_accepts D limit table m n b (accepted-table limit types reference found is types_sound more)

  pub reference_drawn_not_8 : (b : ℕ) → b ≤ budget_limit → (text : List ℕ)
      → verdict_number (judged D types (drawn_figures n held (drawing D limit table m n b)) text) ≡ outside_limits → ⊥
  reference_drawn_not_8 b h = drawn_not_8 D types n held all_typed all_known positive limit table m b (reference_drawn b h)

  pub reference_checked_not_8 : (ws : List ℕ) (moves : ℕ) → (checking D limit table m n ws).outcome ≡ Accepted → moves ≤ budget_limit
      → (text : List ℕ) → verdict_number (judged D types (figures_of n held (checking D limit table m n ws).ball moves) text) ≡ outside_limits → ⊥
  reference_checked_not_8 = checked_not_8 D types n held all_typed all_known positive limit table m

  module _ (i : ℕ) (l : i < m) where
    pub reference_row_quiet : (ball : Ball) (moves : ℕ) → figures_known D types (figures_of n held ball moves) ≡ true
        → Tight D m n (coordinate table n) ball → judged D types (figures_of n held ball moves) (row_text i) ≡ Quiet
    reference_row_quiet ball moves within t =
        let label = label_at found i in
        let values = (row_at found i).values in
        let right = limits.all_rows.each i l in
        let labelled : is_label label ≡ true = ap is_label (label-at found i) ∙ row_label (row_at found i).label right.labelled in
        let in_ranges = ap (λ (c : List ℕ). values_in_range types c values) taken ∙ range_in types (codes_of found) values right.each_in_range in
        ap (λ (c : List ℕ). judged D types (figures_of n held ball moves) (print_reading (own_reading types c label values))) (sym taken)
        ∙ tight_row_quiet D types types_sound n held label labelled values right.complete in_ranges ball moves within m (coordinate table n) t i l
        (λ j k. row-at i j l k)

    pub reference_drawn_quiet : (b : ℕ) → b ≤ budget_limit
        → judged D types (drawn_figures n held (drawing D limit table m n b)) (row_text i) ≡ Quiet
    reference_drawn_quiet b h =
        let accepted = reference_drawn b h in
        let r = drawing D limit table m n b in
        reference_row_quiet r.ball r.moves
        (drawn-within D types n held all_typed all_known positive limit table m b accepted) (drawing_tight D limit table m n b accepted positive)

    pub reference_checked_quiet : (ws : List ℕ) (moves : ℕ) → (checking D limit table m n ws).outcome ≡ Accepted → moves ≤ budget_limit
        → judged D types (figures_of n held (checking D limit table m n ws).ball moves) (row_text i) ≡ Quiet
    reference_checked_quiet ws moves h b =
        reference_row_quiet (checking D limit table m n ws).ball moves
        (checked-within D types n held all_typed all_known positive limit table m ws moves h b) (checking_tight D limit table m n ws h positive)
