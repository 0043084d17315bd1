-- What a new goroutine was passed, by the names that the world keeps of the one that starts it. The code has lists of formals that were
-- computed when the run began; `Prepared` says that they are the code's.
use Rattle.std.proofs.Common.{◌≡◌, ℕ, List, [], ◌∷◌, ◌++◌, map, Option, Some, None, refl, sym, ap, ◌∙◌, subst}
use Rattle.std.proofs.Common.{slice_get}
use Rattle.std.specs.Option.{option_map}
use Rattle.std.proofs.lemmas.Option.{slice_get-map}
use Rattle.rgo_tac.specs.declared.regions.Class.{Class}
use Rattle.rgo_code.specs.Code.{CodeFn, CodeInstr}
use Rattle.rgo_code.specs.Lists.{passes_in}
use Rattle.rgo_code.specs.Names.{region_parameters}
use Rattle.rgo_region_machine.specs.declared.regions.Region.{Region}
use Rattle.rgo_region_machine.specs.declared.regions.Region.TheVariants.{Numbered}
use Rattle.rgo_region_machine.specs.Owed.{formals_of, code_function, passed, passed_regions, twice}
use Rattle.rgo_region_machine.specs.Regions.{Bindings}
use Rattle.rgo_region_interpreter.specs.declared.holders.Holder.{Holder}
use Rattle.rgo_region_interpreter.specs.declared.worlds.World.{World}
use Rattle.rgo_region_interpreter.specs.Calls.{BeginsOther, NamesStandFor, HolderStarted, or_no_elements}
use Rattle.rgo_region_interpreter.specs.Holders.{HolderBegins, FrameNames, frame_names_of, newest_frame_names}
use Rattle.rgo_region_interpreter.specs.Worlds.{Prepared}
use Rattle.rgo_region_interpreter.proofs.holding.OneHolder.{the_same}

-- the region parameters that the world keeps of a function
pub formals_kept : (w : World) (n : ℕ) → Prepared w
    → or_no_elements (slice_get (map (λ v. v.items) w.formals.items) n) ≡ formals_of (code_function w.code.now n)
formals_kept w n prepared =
    ap (λ l. or_no_elements (slice_get l n)) prepared.formals
    ∙ ap or_no_elements (slice_get-map region_parameters w.code.now.functions n)
    ∙ go (code_function w.code.now n)
  where
    go : (o : Option CodeFn) → or_no_elements (option_map region_parameters o) ≡ formals_of o
    go None = refl
    go (Some f) = refl

-- what the new goroutine has is what is passed to it
pub begun_with : (w p : World) (g callee : ℕ) (instr : Option CodeInstr) (c d : Holder) (names : FrameNames) (base : List ℕ)
    (formals passes : List Class) (regions : List (Option Region)) → Prepared w → slice_get w.holders.items g ≡ Some c
    → p ≡ record w { holders = p.holders } → p.holders.items ≡ w.holders.items ++ d ∷ [] → HolderBegins d names base
    → formals ≡ or_no_elements (slice_get (map (λ v. v.items) w.formals.items) callee) → passes ≡ passes_in instr
    → ((bindings : Bindings) → NamesStandFor (newest_frame_names (frame_names_of c)) bindings → regions ≡ passed_regions bindings passes)
    → ((bindings : Bindings) → NamesStandFor (newest_frame_names (frame_names_of c)) bindings
    → NamesStandFor names (passed formals (passed_regions bindings passes)))
    → map Numbered base ≡ twice regions
    → BeginsOther w p g (code_function w.code.now callee) instr
begun_with w p g callee instr c d names base formals passes regions prepared there same holders begins formals_are
    passes_are regions_are stand twice_are = record {
      same = same;
      started = λ x e. (
        d,
        holders,
        subst (λ (x : Holder). HolderStarted x d (code_function w.code.now callee) (passes_in instr))
            (the_same c x (sym there ∙ e)) started,
      );
    }
  where
    fits : (bindings : Bindings) → NamesStandFor (newest_frame_names (frame_names_of c)) bindings
        → regions ≡ passed_regions bindings (passes_in instr)
    fits bindings same = regions_are bindings same ∙ ap (passed_regions bindings) passes_are

    known : formals ≡ formals_of (code_function w.code.now callee)
    known = formals_are ∙ formals_kept w callee prepared

    started : HolderStarted c d (code_function w.code.now callee) (passes_in instr)
    started = record {
      names = names;
      base = base;
      begins = begins;
      stand = λ bindings same. (
        subst (λ (z : List Class × List Class). NamesStandFor names (passed z.0 (passed_regions bindings z.1)))
            (λ i. (known i, passes_are i)) (stand bindings same),
        twice_are ∙ ap twice (fits bindings same),
      );
    }
