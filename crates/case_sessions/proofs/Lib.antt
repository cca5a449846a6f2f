mod NewNets
