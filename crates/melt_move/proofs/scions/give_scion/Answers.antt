use Rattle.std.proofs.Common.{◌∙◌, arith}
use Rattle.melt_record.specs.Records.{IsScion}
use Rattle.melt_space.specs.Space.{word_at}
use Rattle.melt_scion.specs.declared.heap.Heap.{Heap}
use Rattle.melt_move.specs.GivenScions.{NamesScion}
use Rattle.melt_move.proofs.Stubs.{stub_shows}
use Rattle.melt_move.proofs.Turns.{given_scion}
use Rattle.melt_move.proofs.scions.give_scion.Goals as goal

pub returns-clause-written : goal.returns-clause-written
returns-clause-written g c = λ image shows.
    let old = c.args.heap.now in
    let heap : Heap = record {
      space = c.set_word.new.self;
      scions = c.add-scion.new.self;
      globals = old.globals;
      forward = old.forward;
      names = old.names;
      maps = old.maps;
    } in
    let is_scion : IsScion c.add-scion.result =
    given_scion old.scions c.add-scion.new.self c.args.home c.args.m.to c.add-scion.result c.requires.table
    c.requires.wants.few c.add-scion.ensures.adds in
    let names : NamesScion (word_at heap.space) c.args.m.to c.args.home c.add-scion.result = record {
      in_range = record {
        home = record { not_null = omega (arith, c.requires.some); small = c.ranges.home.fits };
        scion = is_scion.small;
      };
      some = omega (arith, is_scion.not_null);
      is = c.set_word.ensures.here ∙ c.encode_home-word.ensures;
    } in
    stub_shows _ _ heap c.args.m c.args.disk.now.end image shows c.in_ok-write_stub.ensures.written
    c.requires.lies.shape c.requires.wants.within is_scion names
