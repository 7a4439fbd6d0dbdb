use Rattle.melt_move_tests.proofs.BuildingBox.{alone_formed, back_formed}
use Rattle.melt_move_tests.proofs.tests.given.heap_of_both.Goals as goal

pub returns-clause-alone : goal.returns-clause-alone
returns-clause-alone c = alone_formed c.in_ok-heap.heap c.set-2.new.self c.args.home c.args.forward.now (record {
  words = _;
  words_are = c.box_and_pair_words-words.ensures;
  globals = _;
  globals_are = c.box_and_pair_globals-globals.ensures;
  built = c.in_ok-heap.ensures;
  unnamed = c.in_ok-addresses.addresses;
  names_one = c.set.new.self;
  none = c.in_ok-addresses.ensures;
  pair_named = c.set.ensures;
  box_named = c.set-2.ensures;
})

pub returns-clause-back : goal.returns-clause-back
returns-clause-back c = back_formed c.in_ok-heap.heap c.set-2.new.self c.args.home c.args.forward.now (record {
  words = _;
  words_are = c.box_and_pair_words-words.ensures;
  globals = _;
  globals_are = c.box_and_pair_globals-globals.ensures;
  built = c.in_ok-heap.ensures;
  unnamed = c.in_ok-addresses.addresses;
  names_one = c.set.new.self;
  none = c.in_ok-addresses.ensures;
  pair_named = c.set.ensures;
  box_named = c.set-2.ensures;
})
