mod ShortPairs
