mod PlacedLists
