-- The figures are within their limits and their codes known. What the line is decides what the text is; the values of a line within
-- stand in the first n of the lent places, as the one row whose s is answered.
use Prim.Native.Nat.{ℕ}
use mathlib.Core.Path.{◌≡◌, refl, ap, ◌∙◌}
use mathlib.Core.Bool.{true}
use mathlib.Core.List.{List, [], ◌∷◌, ◌++◌}
use native.Mathlib.Omega.{arith}
use lib.IntN.{ℤ}
use lib.Seq.{length-take-le}
use Rattle.limits.specs.Limits.{total}
use Rattle.geometry.specs.Places.{centre_of}
use Rattle.text.specs.Parts.{line_end, text_within}
use Rattle.channel.specs.Channel.{channel_types}
use Rattle.channel.specs.ChannelLaws.{house_sound}
use Rattle.envelope.specs.Figures.{channel_codes, figures_known}
use Rattle.envelope.specs.Clauses.{lent_figures}
use Rattle.envelope.specs.FigureLaws.{known-within, known_coded, within_centre}
use Rattle.envelope.specs.declared.Figures.{Figures}
use Rattle.reading_line.specs.Reading.{reading_line}
use Rattle.reading_line.specs.Clauses.{Line, Malformed, TagDiffers, OutOfRange, Within, line_of, line_alone, LineRead}
use Rattle.reading_line.specs.declared.Fault.{Fault}
use Rattle.reading.specs.Content.{reading_content}
use Rattle.std.specs.Prelude.{Err}
use Rattle.refusal.specs.declared.Refusal.{Refusal}
use Rattle.reading.specs.Clauses.{distance_faulty, distance_sound, distance_outcome, Is}
use Rattle.reading.proofs.VerdictSteps.{line_content, content_of, content-line, point-read}
use Rattle.reading.proofs.distance_of_line.Goals as goal

-- what a line at fault is
abbrev faulted : Fault → Line
faulted fault = line_of (Err fault)

-- what the text is, by what the line is told to be
decided : (f : Figures) {line : List ℕ} {lent₀ lent : List ℤ} {r : Line} → figures_known total channel_types f ≡ true
    → text_within (line ++ (line_end ∷ [])) ≡ true → LineRead channel_types (channel_codes f) line lent₀ lent r → (told : Line) → r ≡ told
    → reading_content total channel_types f (line ++ (line_end ∷ [])) ≡ line_content told (content_of (reading_line f.n (line_alone line)))
decided f known within read told is =
    content-line total channel_types f known within read (length-take-le f.n f.codes (known_coded total channel_types f known).typed) told is

pub read_line-requires : goal.read_line-requires
read_line-requires c =
    let figures = lent_figures c.args.scalars c.args.codes.now c.args.scaled_centre.now in
    let coded = known_coded total channel_types figures c.requires.0 in
    (coded.each_known, (coded.typed, omega (arith, (known-within total channel_types figures c.requires.0).channels, c.requires.1.1)))

pub scaled_squared_distance-requires : goal.scaled_squared_distance-requires
scaled_squared_distance-requires c =
    let figures = lent_figures c.args.scalars c.args.codes.now c.args.scaled_centre.now in
    let limits = known-within total channel_types figures c.requires.0 in
    let count = length-take-le figures.n figures.codes (known_coded total channel_types figures c.requires.0).typed in
    let point =
    point-read c.in-Ok.ensures house_sound figures.n count (omega (arith, limits.channels, c.requires.1.1)) limits.channels in
    (point.row, within_centre limits)

pub returns-in-Err-Malformed : goal.returns-in-Err-Malformed
returns-in-Err-Malformed c =
    distance_faulty c.read_line.ensures.same_length
    (decided (lent_figures c.args.scalars c.args.codes.now c.args.scaled_centre.now) c.requires.0 c.requires.1.0 c.in-Err-Malformed.ensures Malformed (ap faulted c.in-Err-Malformed.field-0-is))
    (ap (λ (r : Refusal). distance_outcome (Err r)) c.new.ensures)

pub returns-in-Err-TagDiffers : goal.returns-in-Err-TagDiffers
returns-in-Err-TagDiffers c =
    distance_faulty c.read_line.ensures.same_length
    (decided (lent_figures c.args.scalars c.args.codes.now c.args.scaled_centre.now) c.requires.0 c.requires.1.0 c.in-Err-TagDiffers.ensures TagDiffers (ap faulted c.in-Err-TagDiffers.field-0-is))
    (ap (λ (r : Refusal). distance_outcome (Err r)) c.new-in-Err-TagDiffers.ensures)

pub returns-in-Err-OutOfRange : goal.returns-in-Err-OutOfRange
returns-in-Err-OutOfRange c =
    distance_faulty c.read_line.ensures.same_length
    (decided (lent_figures c.args.scalars c.args.codes.now c.args.scaled_centre.now) c.requires.0 c.requires.1.0 c.in-Err-OutOfRange.ensures OutOfRange (ap faulted c.in-Err-OutOfRange.field-0-is))
    (ap (λ (r : Refusal). distance_outcome (Err r)) c.new-in-Err-OutOfRange.ensures)

pub returns-in-Ok : goal.returns-in-Ok
returns-in-Ok c =
    let figures = lent_figures c.args.scalars c.args.codes.now c.args.scaled_centre.now in
    let limits = known-within total channel_types figures c.requires.0 in
    let count = length-take-le figures.n figures.codes (known_coded total channel_types figures c.requires.0).typed in
    let point =
    point-read c.in-Ok.ensures house_sound figures.n count (omega (arith, limits.channels, c.requires.1.1)) limits.channels in
    distance_sound c.read_line.ensures.same_length
    (decided (lent_figures c.args.scalars c.args.codes.now c.args.scaled_centre.now) c.requires.0 c.requires.1.0 c.in-Ok.ensures Within refl ∙ ap content_of point.is)
    (ap Is (c.scaled_squared_distance.ensures.is ∙ point.distance total (centre_of figures.ball.scaled_centre)))
    point.written
