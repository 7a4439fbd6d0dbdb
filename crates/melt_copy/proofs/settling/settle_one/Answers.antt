use Rattle.std.proofs.Common.{◌≡◌, ◌<◌, length, sym, ◌∙◌, ap, subst, [], rules}
use Rattle.std.specs.Prelude.{slice_set}
use Rattle.melt_word.specs.Words.{IsHeader, header_word}
use Rattle.melt_word.specs.declared.header.Header.{Header}
use Rattle.melt_space.specs.Space.{word_at}
use Rattle.melt_scion.specs.Scions.{Scions}
use Rattle.melt_scion.specs.declared.heap.Heap.{Heap}
use Rattle.melt_scion.proofs.Tables.{taken_back}
use Rattle.melt_copy.specs.Settling.{Keeps}
use Rattle.melt_copy.proofs.SettlingOne.{has_room, keeps_failed, keeps_settled}
use Rattle.melt_copy.proofs.settling.settle_one.Goals as goal

pub add-scion-requires : goal.add-scion-requires
add-scion-requires g c =
    let f = c.requires.formed in
    subst (λ (h : Heap). length h.scions.live < length h.scions.pairs) (sym c.heap.view_is)
    (has_room f.maps c.args.heap.now [] f.disk c.args.place c.args.home c.args.address f.formed c.requires.within
    c.requires.sends f.made.scions)

pub returns-in-Err-clause-stays : goal.returns-in-Err-clause-stays
returns-in-Err-clause-stays g c =
    let now : Heap = c.args.heap.now in
    let table : c.free.new.self ≡ now.scions =
    taken_back c.heap.inside.0.1.0 c.add-scion.new.self c.free.new.self c.args.home c.args.address c.add-scion.result
    c.add-scion.ensures.adds c.add-scion.ensures.table c.free.ensures.frees
    ∙ ap (λ (h : Heap). h.scions) c.heap.view_is in
    ap (λ (h : Heap). record h { scions = c.free.new.self }) c.heap.view_is
    ∙ ap (λ (t : Scions). record now { scions = t }) table

pub returns-in-Err-clause-keeps : goal.returns-in-Err-clause-keeps
returns-in-Err-clause-keeps g c =
    let now : Heap = c.args.heap.now in
    subst (λ (h : Heap). Keeps now h c.args.space.now.end (g.D.StaleDisk.image c.args.space.now.disk.now)
    (g.D.StaleDisk.image c.write_stub.new.self.disk.now)) (sym (returns-in-Err-clause-stays g c))
    (keeps_failed now c.args.space.now.end c.args.place (g.D.StaleDisk.image c.args.space.now.disk.now)
    (g.D.StaleDisk.image c.write_stub.new.self.disk.now) c.requires.within c.requires.sends c.in-Err.ensures.others)

pub returns-clause-settles : goal.returns-clause-settles
returns-clause-settles g c = search rules

pub returns-clause-keeps : goal.returns-clause-keeps
unfolding returns-clause-settles
returns-clause-keeps g c =
    let old : Heap = c.args.heap.now in
    let inside = c.heap.inside.0.1.1 in
    let new : Heap = record {
      space = c.set_word.new.self;
      scions = c.add-scion.new.self;
      globals = inside.0;
      forward = slice_set inside.1.0.items.items c.args.place 0;
      names = inside.1.1.0;
      maps = inside.1.1.1.0;
    } in
    let shape : (k : Header) → IsHeader k → word_at old.space c.args.address ≡ header_word k
    → c.shape-shape.result ≡ k.shape =
    subst (λ (h : Heap). (k : Header) → IsHeader k → word_at h.space c.args.address ≡ header_word k
    → c.shape-shape.result ≡ k.shape) c.heap.view_is c.shape-shape.ensures in
    keeps_settled c.args.space.now.end c.shape-shape.result (g.D.StaleDisk.image c.args.space.now.disk.now)
    (g.D.StaleDisk.image c.write_stub.new.self.disk.now) c.requires.formed.made.scions c.requires.within
    c.requires.sends shape (returns-clause-settles g c) c.in_default.ensures.written
