use Rattle.std.proofs.Common.{ℕ, length, ◌∙◌, ap, subst}
use Rattle.std.specs.Prelude.{List, Option, slice_set, unwrap_or}
use Rattle.melt_scion.specs.Changes.{NameAppears}
use Rattle.melt_core.specs.Noted.{number_given}
use Rattle.melt_core.specs.declared.call.Activation.{Activation}
use Rattle.melt_core.specs.declared.machine.Core.{Core}
use Rattle.melt_core.specs.declared.parts.Naming.TheVariants.{Home}
use Rattle.melt_core.specs.Views.{View, maps, numbers_of, view}
use Rattle.melt_core.proofs.Searching.{forward_set}
use Rattle.melt_core.proofs.machine.Core.enter.Goals as goal

pub returns : goal.returns
returns c =
    let v : View = view c.args.self.now in
    let w : View = view c.name.new.self in
    let a : Activation = c.args.activation in
    record {
      number = number_given v.names (Home a.search.home);
      number_is = λ n is. ap (λ (o : Option ℕ). unwrap_or o 0) is;
      named = c.name.ensures.named;
      size = c.name.ensures.size ∙ ap (λ (core : Core). length (numbers_of (view core).names)) c.self.view_is;
      appears = subst (λ (core : Core). NameAppears (maps (view core)) (maps w) a.address
          (number_given (view core).names (Home a.search.home))) c.self.view_is c.name.ensures.appears;
      only = c.name.ensures.only
          ∙ (ap (λ (core : Core). record (view core) {
            forward = slice_set core.heap.forward c.place-place.result c.pack.result;
            names = w.names;
          }) c.self.view_is
          ∙ ap (λ (words : List ℕ). record v { forward = words; names = w.names })
          (forward_set v a.search c.place-place.result a.address c.pack.result c.place-place.ensures.place c.pack.ensures));
    }
