-- An end that is marked, and words that no channel has, leave the image of channels: no field reads either.
use Rattle.std.proofs.Common.{◌≡◌, ◌≢◌, ℕ, suc, ◌+◌, ◌<◌, List, [], ◌∷◌, Option, slice_set, slice_index, refl, subst, ◌∙◌, arith}
use Rattle.std.proofs.Math.ListN.{length-set}
use Rattle.std.proofs.lemmas.List.{get_or-set_other}
use Rattle.rgo_sound.specs.Typed.declared.actions.Action.TheVariants.{Send}
use Rattle.rgo_sound.specs.Memory.declared.values.Value.{Value}
use Rattle.rgo_sound.specs.Memory.declared.values.Value.TheVariants as value
use Rattle.rgo_sound.specs.Machine.declared.picks.End.{End}
use Rattle.rgo_sound.specs.Code.Code.{Code}
use Rattle.rgo_sound.specs.RegionMachine.Machine.{kept_mark}
use Rattle.rgo_sound.specs.RegionMachine.States.{Mark, RegionState}
use Rattle.rgo_core_channels.specs.Channels.{Chan, Channels, On, Places, cell_of, word_of_channel}
use Rattle.rgo_core_channels.specs.Controls.{extent}
use Rattle.rgo_core_channels.specs.Elsewhere.{FinishKeeps, ForeignWordKeeps}
use Rattle.rgo_core_channels.specs.Records.{ChannelRec}
use Rattle.rgo_core_channels.proofs.Decoding.{some_cell}
use Rattle.rgo_core_channels.proofs.Steps.{at_same, next_same, place_in}

module _ (code : Code) (page_words : ℕ) (encode : Value → ℕ) (place : ℕ → ℕ) (cell : ℕ → ℕ → ℕ) (words : List ℕ) (recs : List ChannelRec) (s : RegionState)
    (at : Places) (K : Channels code page_words encode place cell words recs s at) where
  -- the state that is like s except for its end, its mark and its number of steps
  abbrev pub marked_state : Option End → Option Mark → ℕ → RegionState
  marked_state ended mark steps = record s { plain = record s.plain { ended = ended }; steps = steps; mark = mark }

  pub marked_keeps : (ended : Option End) (mark : Option Mark) (steps : ℕ)
      → Channels code page_words encode place cell words recs (marked_state ended mark steps) at
  marked_keeps ended mark steps = record {
    controls = K.controls;
    capacities = K.capacities;
    cells = K.cells;
    buffered = K.buffered;
    unbuffered = K.unbuffered;
    small = K.small;
    inside = K.inside;
    cells_inside = K.cells_inside;
    row = K.row;
    apart = K.apart;
    lockers = K.lockers;
    locks = K.locks;
    in_cells = K.in_cells;
    sizes = K.sizes;
    reaches = K.reaches;
    saws = K.saws;
    strands = K.strands;
    knows = λ j a y e q. at_same code place s (marked_state ended mark steps) j y.post a (λ z. (refl, refl))
        (K.knows j a y e q);
    as_many = K.as_many;
    calm = K.calm;
    posts = K.posts;
    offers = K.offers;
    waits = λ o g k on e. let t = K.waits o g k on e in (
      t.0,
      next_same code s (marked_state ended mark steps) g Send (value.Object o ∷ t.0 ∷ []) (refl, refl) t.1,
      t.2,
    );
  }

  module _ (i x : ℕ) (far : (o j : ℕ) (k : Chan) → On s o k → j < 2 + extent k.capacity → word_of_channel place cell o j ≢ i) where
    abbrev new : List ℕ
    new = slice_set words i x

    same : (o j : ℕ) (k : Chan) → On s o k → j < 2 + extent k.capacity
        → slice_index new (word_of_channel place cell o j) ≡ slice_index words (word_of_channel place cell o j)
    same o j k on lt = get_or-set_other words i (word_of_channel place cell o j) x 0 (far o j k on lt)

    first : (o : ℕ) (k : Chan) → On s o k → slice_index new (place o) ≡ slice_index words (place o)
    first o k on = same o 0 k on (omega arith)

    in_cell : (o j : ℕ) (k : Chan) → On s o k → j < extent k.capacity
        → slice_index new (cell o j) ≡ slice_index words (cell o j)
    in_cell o j k on h = same o (suc (suc j)) k on (omega arith)

    pub word_kept : Channels code page_words encode place cell new recs s at
    word_kept = record {
      controls = λ o k on. first o k on ∙ K.controls o k on;
      capacities = λ o k on. same o 1 k on (omega arith) ∙ K.capacities o k on;
      cells = λ o j v k on q. let p = place_in code page_words encode place cell words recs s at K o j v k on q in
          in_cell o (cell_of k (at.head o) j) k on p.1 ∙ K.cells o j v k on q;
      buffered = K.buffered;
      unbuffered = K.unbuffered;
      small = K.small;
      inside = λ o k on. rw length-set (K.inside o k on);
      cells_inside = λ o j k on h. rw length-set (K.cells_inside o j k on h);
      row = K.row;
      apart = K.apart;
      lockers = K.lockers;
      locks = λ j a n y e q. let t = K.locks j a n y e q in (
        t.0,
        t.1,
        t.2,
        t.3,
        t.4,
        subst (λ a. slice_index new a ≡ slice_index words a) t.3 (first t.0 t.1 t.2) ∙ t.5,
      );
      in_cells = λ j a l v y e q. let t = K.in_cells j a l v y e q in (
        t.0,
        t.1,
        t.2,
        t.3,
        t.4,
        in_cell t.0 l t.1 t.2 t.4 ∙ t.5,
      );
      sizes = K.sizes;
      reaches = K.reaches;
      saws = K.saws;
      strands = K.strands;
      knows = K.knows;
      as_many = K.as_many;
      calm = K.calm;
      posts = K.posts;
      offers = K.offers;
      waits = λ o g k on e. let t = K.waits o g k on e in
          (t.0, t.1, in_cell o 0 k on (some_cell k.capacity) ∙ t.2);
    }

pub finish_keeps : FinishKeeps
finish_keeps code page_words encode place cell words recs s at limit K =
    marked_keeps code page_words encode place cell words recs s at K s.plain.ended (kept_mark s.mark limit) s.steps

pub word_keeps : ForeignWordKeeps
word_keeps code page_words encode place cell words recs s at i x far K = word_kept code page_words encode place cell words recs s at K i x far
